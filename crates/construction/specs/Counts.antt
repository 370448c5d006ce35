-- The forecast from counts (Card 3): "The order, I, O and the number of gates of each kind alone decide the four
-- figures, or 8, by one stated formula". No table stands in it. Another kind of gate is one more clause of `counted`.
-- Assumes nothing.
use Rattle.std.specs.Prelude.{Bool, ◌||◌, cond, ℕ, ◌+◌, ◌*◌, ltb}
use Rattle.tables.specs.declared.Counts as DCounts
use Rattle.construction.specs.declared.Sizes as DSizes
use Rattle.tables.specs.Tables.{Kind, NOT, XOR, AND, RANDOM, CONSTANT, OR, UNKNOWN, table_long}
use Rattle.construction.specs.Shares.{shares_of, tri}
use Rattle.construction.specs.Wires.{cost}

-- what a plain gate draws once it is masked: "of which n(n−1)/2 are random"
abbrev pub draws : Kind → ℕ → ℕ
draws NOT n = 0
draws XOR n = 0
draws AND n = tri n
draws RANDOM n = 0
draws CONSTANT n = 0
draws OR n = tri n
draws (UNKNOWN k) n = 0

-- "count each kind once and multiply": a figure of each kind, times the gates of that kind
abbrev pub counted : (Kind → ℕ) → DCounts.Counts → ℕ
counted f c =
    c.nots * f NOT + c.xors * f XOR + c.ands * f AND + c.randoms * f RANDOM + c.constants * f CONSTANT + c.ors * f OR

-- "the four figures" at order t, of I inputs, O outputs and so many gates of each kind
abbrev pub figures_by : ℕ → ℕ → ℕ → DCounts.Counts → DSizes.Sizes
figures_by t i o c =
    let n = shares_of t in
    let gates = counted (λ k. cost k n) c in
    record {
      number = 0;
      place = 0;
      shares = n;
      wires = n * i + gates;
      tape = 2 * t * i + counted (λ k. draws k n) c;
      bytes = table_long gates (n * o);
    }

-- "8 more than 65,535 masked wires, masked outputs"
abbrev pub too_many_by : ℕ → ℕ → ℕ → DCounts.Counts → Bool
too_many_by t i o c = ltb 65535 (figures_by t i o c).wires || ltb 65535 (shares_of t * o)

-- 8, and no figures
abbrev pub refused8 : DSizes.Sizes
refused8 = record { number = 8; place = 0; shares = 0; wires = 0; tape = 0; bytes = 0 }

-- "the four figures, or 8"
abbrev pub forecast_by : ℕ → ℕ → ℕ → DCounts.Counts → DSizes.Sizes
forecast_by t i o c = cond (too_many_by t i o c) refused8 (figures_by t i o c)

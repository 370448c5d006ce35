-- A masked table put together: the sizes, then the kinds, the operands and the outputs, each at its place.
-- Assumes nothing.
use mathlib.Core.Path.{◌≡◌, refl, sym, ap, ap₂, ◌∙◌}
use mathlib.Core.List.{List, ◌++◌}
use Prim.Native.Nat.{ℕ, ◌+◌, ◌-◌, ◌*◌, ◌≤◌}
use native.Mathlib.Omega.{arith}
use lib.ListN.{length}
use lib.Seq.{take-length}
use borrow.Rule.Slice.PartMut.{mid_of, put_mid, mid_len}
use Rattle.tables.specs.Tables.{Table, two, table_of, total, kind_bytes, pair_bytes, word_bytes, table_bytes}
use Rattle.tables.specs.Says.{over}
use Rattle.tables.specs.Inside.{put_at}
use Rattle.tables.proofs.Format.{kinds_long, pairs_long, words_long}
use Rattle.tables.proofs.Put.{Writing, writing_start, writing_fits, writing_piece, put_zero, put_then, part_put}
use Rattle.construction.specs.declared.And as DAnd
use Rattle.construction.specs.Gadgets.{gadget_of}
use Rattle.construction.specs.Wires.{cost, masked, output_shares, shares_after, masked_table}
use Rattle.construction.proofs.Lawful.{lawful}
use Rattle.construction.proofs.Placed.{masked_outputs}
use Rattle.planning.specs.declared.Plan as DPlan
use Rattle.planning.specs.Plans.{PlanReady, plan_bytes}
use Rattle.planning.proofs.Planning.{plan_passed, plan_inputs, plan_bytes_lem}
use Rattle.layout.specs.Layout.{operand_bytes}
use Rattle.mask_kinds.specs.Kinds.{gate_kinds}
use Rattle.mask_kinds.proofs.GateKinds.{masked_kinds}
use Rattle.share_places.specs.Located.{shares_to, all_shares, gate_wire}
use Rattle.share_places.proofs.Turns.{plan_wires}
use Rattle.mask_parts.specs.Stretch.{stretch}
use Rattle.mask_parts.proofs.Stretches.{over_all}
use Rattle.mask_bytes.specs.AfterSizes.{after_sizes}

-- the gates of a plan's masked table
abbrev pub gates_of : DPlan.Plan → ℕ
gates_of p = p.wires - p.shares * p.inputs

stretch_all : (t : Table) (e : ℕ) → e ≡ length t.gates → stretch t 0 e ≡ t.gates
stretch_all t e h = let none : e - 0 ≡ length t.gates = omega arith in rw none (take-length t.gates)

module _ (a : DAnd.And) {s : List ℕ} {p : DPlan.Plan} (R : PlanReady s p) where
  abbrev m : Table
  m = masked_table (gadget_of a) p.order (table_of s)

  gates_count : length m.gates ≡ gates_of p
  gates_count = omega (arith, R.wires a, plan_inputs R a)

  outputs_count : length m.outputs ≡ p.shares * p.outputs
  outputs_count = rw (R.shares, R.outputs) (masked_outputs (gadget_of a) p.order (table_of s) (plan_passed R).plain).0

  -- what is written over all gates is the masked table's
  whole_cost : total (λ k. cost k p.shares) (stretch (table_of s) 0 p.gates) ≡ gates_of p
  whole_cost = rw (stretch_all (table_of s) p.gates R.gates) (omega (arith, plan_wires R, ap (λ (i : ℕ). p.shares * i) R.inputs))

  kinds_whole : gate_kinds p.shares (stretch (table_of s) 0 p.gates) ≡ kind_bytes m.gates
  unfolding masked_table
  kinds_whole =
      rw (R.shares, stretch_all (table_of s) p.gates R.gates) (sym (masked_kinds (lawful a) _ 0 _ _ (table_of s).gates))

  operands_whole_lem :
      operand_bytes
      (masked (gadget_of a) p.shares 0 (p.shares * p.inputs) (shares_to p.shares (table_of s) 0) (stretch (table_of s) 0 p.gates))
      ≡ pair_bytes m.gates
  unfolding masked_table shares_after
  operands_whole_lem = rw (R.shares, R.inputs, stretch_all (table_of s) p.gates R.gates) refl

  outputs_whole : word_bytes (output_shares (all_shares p.shares (table_of s)) (table_of s).outputs) ≡ word_bytes m.outputs
  unfolding masked_table
  outputs_whole = rw R.shares refl

  -- the parts of a buffer with room for the table, each once it is back
  pub parts_start : (b : List ℕ) → plan_bytes p ≤ length b → Writing (put_at 6 (after_sizes m) b) 6 (after_sizes m) b
  unfolding table_bytes
  parts_start b h = writing_start 6 (after_sizes m) b (omega (arith, plan_bytes_lem R a))

  module _ {whole b x : List ℕ} where
    pub kinds_back :
        Writing whole 6 (after_sizes m) b → x ≡ gate_kinds p.shares (stretch (table_of s) 0 p.gates)
        → Writing whole (6 + gates_of p) (pair_bytes m.gates ++ word_bytes m.outputs) (put_mid 6 (6 + gates_of p - 6) b x)
    kinds_back W e =
        let ks = kind_bytes m.gates in
        let long : length ks ≡ gates_of p = kinds_long m.gates ∙ gates_count in
        let room = writing_fits W ks _ refl in
        let part = mid_len 6 (6 + gates_of p) b (omega arith) in
        writing_piece W ks _ refl
        (part_put 6 (6 + gates_of p) ks b (omega arith) (omega arith) (omega arith)
        (e ∙ kinds_whole ∙ sym (over_all ks _ (omega arith))))
        (omega arith)

    pub operands_back :
        Writing whole (6 + gates_of p) (pair_bytes m.gates ++ word_bytes m.outputs) b
        → x
        ≡ over
        (operand_bytes
        (masked (gadget_of a) p.shares 0 (p.shares * p.inputs) (shares_to p.shares (table_of s) 0) (stretch (table_of s) 0 p.gates)))
        (mid_of (6 + gates_of p) (6 + 5 * gates_of p - (6 + gates_of p)) b)
        → Writing whole (6 + 5 * gates_of p) (word_bytes m.outputs)
        (put_mid (6 + gates_of p) (6 + 5 * gates_of p - (6 + gates_of p)) b x)
    operands_back W e =
        let ps = pair_bytes m.gates in
        let long : length ps ≡ 4 * gates_of p = pairs_long m.gates ∙ ap (λ (c : ℕ). 4 * c) gates_count in
        let room = writing_fits W ps _ refl in
        writing_piece W ps _ refl
        (part_put (6 + gates_of p) (6 + 5 * gates_of p) ps b (omega arith) (omega arith) (omega arith) (rw operands_whole_lem at e))
        (omega arith)

    pub outputs_back :
        Writing whole (6 + 5 * gates_of p) (word_bytes m.outputs) b
        → x
        ≡ over (word_bytes (output_shares (all_shares p.shares (table_of s)) (table_of s).outputs))
        (mid_of (6 + 5 * gates_of p) (length b - (6 + 5 * gates_of p)) b)
        → put_mid (6 + 5 * gates_of p) (length b - (6 + 5 * gates_of p)) b x ≡ whole
    outputs_back W e =
        let start = 6 + 5 * gates_of p in
        part_put start (length b) (word_bytes m.outputs) b (omega (arith, W.room)) (omega arith) (omega (arith, W.room))
        (rw outputs_whole at e)
        ∙ W.goal

  -- what each writer asks of its part
  module _ {whole b : List ℕ} where
    pub kinds_asked :
        Writing whole 6 (after_sizes m) b
        → total (λ k. cost k p.shares) (stretch (table_of s) 0 p.gates) ≡ length (mid_of 6 (6 + gates_of p - 6) b)
    kinds_asked W =
        let room = writing_fits W (kind_bytes m.gates) _ refl in
        omega (
          arith,
          whole_cost,
          kinds_long m.gates,
          gates_count,
          mid_len 6 (6 + gates_of p) b (omega (arith, kinds_long m.gates, gates_count)),
        )

    pub operands_asked :
        Writing whole (6 + gates_of p) (pair_bytes m.gates ++ word_bytes m.outputs) b
        → (p.shares * p.inputs ≡ gate_wire p.shares (table_of s) 0)
        × (4 * total (λ k. cost k p.shares) (stretch (table_of s) 0 p.gates)
        ≤ length (mid_of (6 + gates_of p) (6 + 5 * gates_of p - (6 + gates_of p)) b))
    unfolding total
    operands_asked W =
        let long = pairs_long m.gates in
        let room = writing_fits W (pair_bytes m.gates) _ refl in (
          ap (λ (i : ℕ). p.shares * i) R.inputs ∙ omega arith,
          omega (arith, whole_cost, mid_len (6 + gates_of p) (6 + 5 * gates_of p) b (omega (arith, long, gates_count, room))),
        )

    pub outputs_asked :
        Writing whole (6 + 5 * gates_of p) (word_bytes m.outputs) b
        → 2 * (p.shares * p.outputs) ≤ length (mid_of (6 + 5 * gates_of p) (length b - (6 + 5 * gates_of p)) b)
    outputs_asked W =
        omega (
          arith,
          W.room,
          words_long m.outputs,
          outputs_count,
          mid_len (6 + 5 * gates_of p) (length b) b (omega arith),
        )

  -- the sizes and what follows them are the masked table
  pub whole_back :
      (b : List ℕ) {b₁ b₂ : List ℕ} → plan_bytes p ≤ length b
      → b₁ ≡ put_at 0 (two (p.shares * p.inputs) ++ (two (gates_of p) ++ two (p.shares * p.outputs))) b
      → b₂ ≡ put_at 6 (after_sizes m) b₁ → b₂ ≡ over (table_bytes m) b
  unfolding table_bytes
  whole_back b room sizes parts =
      let six = two (p.shares * p.inputs) ++ (two (gates_of p) ++ two (p.shares * p.outputs)) in
      let same : six ++ after_sizes m ≡ table_bytes m =
      ap (λ (x : ℕ). (two x ++ (two (gates_of p) ++ two (p.shares * p.outputs))) ++ after_sizes m) (plan_inputs R a)
      ∙ ap₂ (λ (x y : ℕ). (two m.inputs ++ (two x ++ two y)) ++ after_sizes m) (sym gates_count) (sym outputs_count) in
      put_then 0 six (after_sizes m) b (omega arith) sizes refl parts
      ∙ put_zero (six ++ after_sizes m) b
      ∙ ap (λ (l : List ℕ). over l b) same

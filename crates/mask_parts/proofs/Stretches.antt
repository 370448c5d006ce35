-- Writing a masked table piece by piece: what of a stretch's kinds and operands, and of the outputs, is left to write.
-- Assumes nothing.
use mathlib.Core.Path.{◌≡◌, refl, sym, ap, ◌∙◌, subst}
use mathlib.Core.List.{List, [], ◌∷◌, ◌++◌, append-nil}
use Prim.Native.Nat.{ℕ, zero, suc, ◌+◌, ◌-◌, ◌*◌, ◌≤◌, ◌<◌}
use native.Mathlib.Numerals.{add-one}
use native.Mathlib.Omega.{arith}
use lib.ListN.{length, get_or, drop, replicate, length-replicate, drop_of_length-le}
use lib.Seq.{drop-cons}
use Rattle.tables.specs.Kinds.{kind_is}
use Rattle.tables.specs.Tables.{Kind, Gate, no_gate, Table, wires, gate_of, two, table_of, operands_of, total, word_bytes}
use Rattle.tables.specs.Tables.{pair_bytes}
use Rattle.tables.specs.Says.{over}
use Rattle.tables.specs.Inside.{put_at}
use Rattle.tables.proofs.Lists.{all_get_d}
use Rattle.tables.proofs.Run.{OfLeft, OfRight, read_left, read_right}
use Rattle.tables.proofs.Format.{words_long}
use Rattle.tables.proofs.Put.{Writing, writing_front, writing_fits, writing_piece, writing_end, put_length}
use Rattle.construction.specs.Gadgets.{Gadget, isw}
use Rattle.construction.proofs.Lawful.{isw_lawful}
use Rattle.construction.specs.Wires.{cost, share, new_shares, masked, output_shares, new_wires}
use Rattle.construction.proofs.Costs.{new_length, masked_length}
use Rattle.construction.proofs.Placed.{new_wires_read}
use Rattle.planning.specs.declared.Plan as DPlan
use Rattle.planning.specs.Plans.{PlanReady}
use Rattle.planning.proofs.Planning.{plan_passed}
use Rattle.layout.specs.declared.Places as DPlaces
use Rattle.layout.specs.Layout.{share_wires, LowShares, operand_bytes, pieces_from}
use Rattle.layout.proofs.Bytes.{operands_append, operands_long}
use Rattle.mask_kinds.specs.Kinds.{new_kinds, gate_kinds, XorsFrom}
use Rattle.mask_kinds.proofs.GateKinds.{wire_kinds_long, new_kinds_lem, masked_kinds, xors_after}
use Rattle.share_places.specs.declared.KeptPlaces as DKeptPlaces
use Rattle.share_places.specs.declared.PlainGate as DPlainGate
use Rattle.share_places.specs.Located.{PlainGateIs, places_at, Located, shares_to, all_shares, gate_wire}
use Rattle.share_places.proofs.Located.{shares_length, all_shares_length, gate_wire_next, shares_to_next, located_at}
use Rattle.share_places.proofs.Turns.{Turn, turn, plan_sized, located_low}
use Rattle.mask_parts.specs.Stretch.{stretch}

words_append : (xs ys : List ℕ) → word_bytes (xs ++ ys) ≡ word_bytes xs ++ word_bytes ys
unfolding word_bytes
words_append [] ys = refl
words_append (x ∷ xs) ys = rw (words_append xs ys)

-- fields, and outputs, as pieces one after another
words_from_lem :
    (m i : ℕ) (xs : List ℕ) → m + i ≡ length xs → word_bytes (drop i xs) ≡ pieces_from m i (λ j. two (get_or xs j 0))
unfolding word_bytes pieces_from
words_from_lem zero i xs e = ap {A = List ℕ} {B = List ℕ} word_bytes (drop_of_length-le xs {i = i} (omega arith))
words_from_lem (suc m) i xs e =
    ap {A = List ℕ} {B = List ℕ} word_bytes (drop-cons xs i 0 (omega arith))
    ∙ ap {A = List ℕ} {B = List ℕ} (λ y. two (get_or xs i 0) ++ y) (words_from_lem m (suc i) xs (omega arith))

pub shares_pieces :
    (n : ℕ) (a : DPlaces.Places) → 1 ≤ n → word_bytes (share_wires n a) ≡ pieces_from n 0 (λ i. two (share (share_wires n a) i))
shares_pieces n a h = words_from_lem n 0 (share_wires n a) (omega (arith, shares_length n a h))

outputs_from :
    (S : List (List ℕ)) (m i : ℕ) (os : List ℕ) → m + i ≡ length os
    → word_bytes (output_shares S (drop i os)) ≡ pieces_from m i (λ j. word_bytes (get_or S (get_or os j 0) []))
unfolding word_bytes output_shares pieces_from
outputs_from S zero i os e =
    ap {A = List ℕ} {B = List ℕ} (λ y. word_bytes (output_shares S y)) (drop_of_length-le os {i = i} (omega arith))
outputs_from S (suc m) i os e =
    ap {A = List ℕ} {B = List ℕ} (λ y. word_bytes (output_shares S y)) (drop-cons os i 0 (omega arith))
    ∙ words_append (get_or S (get_or os i 0) []) (output_shares S (drop (suc i) os))
    ∙ ap {A = List ℕ} {B = List ℕ} (λ y. word_bytes (get_or S (get_or os i 0) []) ++ y) (outputs_from S m (suc i) os (omega arith))

-- the wires of output o's shares, as fields
abbrev pub output_piece : Table → ℕ → ℕ → List ℕ
output_piece t n o = word_bytes (get_or (all_shares n t) (get_or t.outputs o 0) [])

pub outputs_pieces :
    (t : Table) (n m : ℕ) → m ≡ length t.outputs
    → word_bytes (output_shares (all_shares n t) t.outputs) ≡ pieces_from m 0 (output_piece t n)
outputs_pieces t n m e = outputs_from (all_shares n t) m 0 t.outputs (omega arith)

-- where the array says that output o's shares are
module _
    {s : List ℕ}
    {p : DPlan.Plan}
    {places : List DKeptPlaces.KeptPlaces}
    (R : PlanReady s p)
    (L : Located (table_of s) p.shares places) where
  pub read_low : {q : ℕ} {a : DPlaces.Places} → q < p.inputs + p.gates → a ≡ places_at places q → LowShares p.shares a
  read_low {q} h e = subst {A = DPlaces.Places} (LowShares p.shares) (sym e) (located_low R L q h)

  module _ {o : ℕ} (h : o < p.outputs) where
    pub output_below : get_or (table_of s).outputs o 0 < p.inputs + p.gates
    output_below =
        omega (
          arith,
          all_get_d (λ q. q < wires (table_of s)) (table_of s).outputs o 0 (plan_passed R).plain.outputs (omega (arith, R.outputs)),
          R.inputs,
          R.gates,
        )

    output_shares_lem :
        share_wires p.shares (places_at places (get_or (table_of s).outputs o 0))
        ≡ get_or (all_shares p.shares (table_of s)) (get_or (table_of s).outputs o 0) []
    output_shares_lem =
        L.holds _ (omega (arith, output_below, all_shares_length p.shares (table_of s), R.inputs, R.gates))

    pub output_long : length (output_piece (table_of s) p.shares o) ≡ 2 * p.shares
    output_long =
        let a = places_at places (get_or (table_of s).outputs o 0) in
        let some = (plan_sized R).some in
        rw (← output_shares_lem) (words_long (share_wires p.shares a) ∙ omega (arith, shares_length p.shares a (omega arith)))

    -- the piece of what was read
    pub output_piece_lem :
        {q : ℕ} {a : DPlaces.Places} → q ≡ get_or (table_of s).outputs o 0 → a ≡ places_at places q
        → word_bytes (share_wires p.shares a) ≡ output_piece (table_of s) p.shares o
    output_piece_lem e here =
        ap {A = List ℕ} {B = List ℕ} word_bytes
        (ap {A = DPlaces.Places} {B = List ℕ} (share_wires p.shares) (here ∙ ap {A = ℕ} {B = DPlaces.Places} (places_at places) e)
        ∙ output_shares_lem)

-- the gates of a stretch: one, and those after it
stretch_step :
    (t : Table) (e g : ℕ) → g < e → e ≤ length t.gates → stretch t g e ≡ gate_of t g ∷ stretch t (suc g) e
stretch_step t e g h k =
    let count : e - g ≡ suc (e - suc g) = omega arith in rw (count, drop-cons t.gates g no_gate (omega arith)) refl

stretch_none : (t : Table) (e g : ℕ) → e ≤ g → stretch t g e ≡ []
stretch_none t e g h = let none : e - g ≡ 0 = omega arith in rw none refl

-- the operands from gate g on and before gate e are left to write; gate g's first masked wire is w
pub record OperandsLeft (G : Gadget) (t : Table) (n : ℕ) (whole b₀ : List ℕ) (e g w at : ℕ) (b : List ℕ) : Type 0 where
  pub wire : w ≡ gate_wire n t g
  pub rest : Writing whole at (operand_bytes (masked G n g w (shares_to n t g) (stretch t g e))) b
  pub long : length b ≡ length b₀

abbrev pub operands_whole : Gadget → Table → ℕ → ℕ → ℕ → ℕ → List ℕ → List ℕ
operands_whole G t n g e w b = over (operand_bytes (masked G n g w (shares_to n t g) (stretch t g e))) b

pub operands_start :
    (G : Gadget) {t : Table} {n e g w : ℕ} {b : List ℕ} → w ≡ gate_wire n t g
    → 4 * total (λ k. cost k n) (stretch t g e) ≤ length b → OperandsLeft G t n (operands_whole G t n g e w b) b e g w 0 b
operands_start G {t} {n} {e} {g} {w} {b} wire room =
    let xs = masked G n g w (shares_to n t g) (stretch t g e) in
    record {
      wire = wire;
      rest = writing_front (operand_bytes xs) b (omega (arith, operands_long xs, masked_length G n g w (shares_to n t g) (stretch t g e)));
      long = refl;
    }

module _ {G : Gadget} {t : Table} {n : ℕ} {whole b₀ : List ℕ} {e g w at : ℕ} {b : List ℕ} (P : OperandsLeft G t n whole b₀ e g w at b) where
  pub operands_end : e ≤ g → b ≡ whole
  unfolding masked pair_bytes
  operands_end h = writing_end P.rest (rw (stretch_none t e g h) refl)

-- in a turn, at a gate whose fields are x
module _
    {G : Gadget}
    {s : List ℕ}
    {p : DPlan.Plan}
    {whole b₀ : List ℕ}
    {e g w at : ℕ}
    {b : List ℕ}
    {x : DPlainGate.PlainGate}
    (R : PlanReady s p)
    (P : OperandsLeft G (table_of s) p.shares whole b₀ e g w at b)
    (h : g < e)
    (k : e ≤ p.gates)
    (is : PlainGateIs (gate_of (table_of s) g) x) where
  pub operands_facts : Turn p.inputs p.shares g w x
  operands_facts = turn R (omega arith) P.wire is

  -- its operands' shares are where the array says
  module _ {places : List DKeptPlaces.KeptPlaces} (L : Located (table_of s) p.shares places) where
    abbrev y : List ℕ
    y = share_wires p.shares (places_at places x.left)

    abbrev z : List ℕ
    z = share_wires p.shares (places_at places x.right)

    -- the gate's piece, and what is left after it
    operands_piece :
        let t = table_of s in
        let n = p.shares in
        let c = (gate_of t g).kind in
        operand_bytes (masked G n g w (shares_to n t g) (stretch t g e))
        ≡ operand_bytes (new_wires G c x.left n g w y z)
        ++ operand_bytes (masked G n (suc g) (w + cost c n) (shares_to n t (suc g)) (stretch t (suc g) e))
    unfolding masked
    operands_piece =
        let t = table_of s in
        let n = p.shares in
        let this = gate_of t g in
        let S = shares_to n t g in
        let inside : g < length t.gates = omega (arith, R.gates) in
        let f = operands_facts in
        let o = operands_of (kind_is x.kind) in
        let at_left : OfLeft o (get_or S this.left [] ≡ y) =
        read_left o (p.inputs + g) x.left x.right f.reads
        (λ k. rw (← is.left) (located_at L g x.left (omega arith) (omega (arith, k, R.inputs)))) in
        let at_right : OfRight o (get_or S this.right [] ≡ z) =
        read_right o (p.inputs + g) x.left x.right f.reads
        (λ k. rw (← is.right) (located_at L g x.right (omega arith) (omega (arith, k, R.inputs)))) in
        let next : S ++ (new_shares this.kind n w (get_or S this.left []) ∷ []) ≡ shares_to n t (suc g) =
        rw P.wire (sym (shares_to_next n t g inside)) in
        let same : new_wires G this.kind this.left n g w (get_or S this.left []) (get_or S this.right [])
        ≡ new_wires G this.kind x.left n g w y z =
        ap (λ (v : ℕ). new_wires G this.kind v n g w (get_or S this.left []) (get_or S this.right [])) (sym is.left)
        ∙ rw (← is.kind)
        (new_wires_read G (kind_is x.kind) x.left n g w (get_or S this.left []) y (get_or S this.right []) z
        at_left at_right) in
        ap {A = List Gate} {B = List ℕ} (λ gs. operand_bytes (masked G n g w S gs)) (stretch_step t e g h (omega (arith, R.gates)))
        ∙ operands_append (new_wires G this.kind this.left n g w (get_or S this.left []) (get_or S this.right [])) _
        ∙ rw (next, same) refl

    pub operands_turn :
        {u : ℕ} {b' : List ℕ}
        → b' ≡ put_at at (operand_bytes (new_wires G (kind_is x.kind) x.left p.shares g w y z)) b
        → u ≡ cost (kind_is x.kind) p.shares
        → OperandsLeft G (table_of s) p.shares whole b₀ e (g + 1) (w + u) (at + 4 * u) b'
    operands_turn {u} {b'} put₀ size =
        let t = table_of s in
        let n = p.shares in
        let c = (gate_of t g).kind in
        let ws = new_wires G c x.left n g w y z in
        let long : length (operand_bytes ws) ≡ 4 * cost c n =
        operands_long ws ∙ ap (λ (v : ℕ). 4 * v) (new_length G c x.left n g w y z) in
        let put : b' ≡ put_at at (operand_bytes ws) b = rw is.kind at put₀ in
        rw (add-one, size, is.kind)
        (record {
          wire = omega (arith, P.wire, gate_wire_next n t g (omega (arith, R.gates)));
          rest = writing_piece P.rest (operand_bytes ws) _ operands_piece put (omega arith);
          long = ap length put ∙ put_length at (operand_bytes ws) b (writing_fits P.rest (operand_bytes ws) _ operands_piece) ∙ P.long;
        })

  pub operands_room :
      {places : List DKeptPlaces.KeptPlaces} → Located (table_of s) p.shares places → at + 4 * cost (kind_is x.kind) p.shares ≤ length b
  operands_room {places} L =
      let n = p.shares in
      let y = share_wires n (places_at places x.left) in
      let z = share_wires n (places_at places x.right) in
      let ws = new_wires G (gate_of (table_of s) g).kind x.left n g w y z in
      rw is.kind
      (omega (
        arith,
        writing_fits P.rest (operand_bytes ws) _ (operands_piece L),
        operands_long ws,
        new_length G (gate_of (table_of s) g).kind x.left n g w y z,
      ))

-- what covers a buffer is all that it holds
pub over_all : (xs b : List ℕ) → length xs ≡ length b → over xs b ≡ xs
over_all xs b e =
    ap {A = List ℕ} {B = List ℕ} (λ y. xs ++ y) (drop_of_length-le b {i = length xs} (omega arith)) ∙ append-nil xs

pub kinds_long : (n : ℕ) (xs : List Gate) → length (gate_kinds n xs) ≡ total (λ k. cost k n) xs
kinds_long n xs =
    ap length (sym (masked_kinds isw_lawful n 0 0 [] xs)) ∙ wire_kinds_long (masked isw n 0 0 [] xs) ∙ masked_length isw n 0 0 [] xs

new_kinds_long : (k : Kind) (n : ℕ) → length (new_kinds k n) ≡ cost k n
new_kinds_long k n =
    ap length (sym (new_kinds_lem isw_lawful k 0 n 0 0 [] []))
    ∙ wire_kinds_long (new_wires isw k 0 n 0 0 [] [])
    ∙ new_length isw k 0 n 0 0 [] []

-- the kinds from gate g on and before gate e are left to write
pub record Kinds (t : Table) (n : ℕ) (whole b₀ : List ℕ) (e g at : ℕ) (b : List ℕ) : Type 0 where
  pub rest : Writing whole at (gate_kinds n (stretch t g e)) b
  pub xors : XorsFrom at b
  pub long : length b ≡ length b₀

-- a buffer of so many bytes, every one the kind of an XOR gate
pub kinds_start :
    {t : Table} {n g e m : ℕ} {b : List ℕ} → total (λ k. cost k n) (stretch t g e) ≡ m → b ≡ replicate m 1
    → Kinds t n (gate_kinds n (stretch t g e)) b e g 0 b
kinds_start {t} {n} {g} {e} {m} {b} fits is =
    let xs = gate_kinds n (stretch t g e) in
    let long : length b ≡ m = ap length is ∙ length-replicate {A = ℕ} m 1 in
    let same : length xs ≡ length b = omega (arith, kinds_long n (stretch t g e)) in
    record {
      rest = subst (λ (y : List ℕ). Writing y 0 xs b) (over_all xs b same) (writing_front xs b (omega arith));
      xors = is ∙ ap (λ (c : ℕ). replicate c 1) {x = m} {y = length b - 0} (omega arith);
      long = refl;
    }

module _ {t : Table} {n : ℕ} {whole b₀ : List ℕ} {e g at : ℕ} {b : List ℕ} (P : Kinds t n whole b₀ e g at b) where
  pub kinds_end : e ≤ g → b ≡ whole
  unfolding gate_kinds
  kinds_end h = writing_end P.rest (rw (stretch_none t e g h) refl)

  module _ {x : DPlainGate.PlainGate} (h : g < e) (k : e ≤ length t.gates) (is : PlainGateIs (gate_of t g) x) where
    -- a gate's piece, and what is left after it
    kinds_piece : gate_kinds n (stretch t g e) ≡ new_kinds (kind_is x.kind) n ++ gate_kinds n (stretch t (suc g) e)
    unfolding gate_kinds
    kinds_piece = rw is.kind (ap {A = List Gate} {B = List ℕ} (gate_kinds n) (stretch_step t e g h k))

    pub kinds_room : at + cost (kind_is x.kind) n ≤ length b
    kinds_room =
        omega (arith, writing_fits P.rest (new_kinds (kind_is x.kind) n) _ kinds_piece, new_kinds_long (kind_is x.kind) n)

    pub kinds_turn :
        {u : ℕ} {b' : List ℕ} → b' ≡ put_at at (new_kinds (kind_is x.kind) n) b → u ≡ cost (kind_is x.kind) n
        → Kinds t n whole b₀ e (g + 1) (at + u) b'
    kinds_turn {u} put size =
        let ks = new_kinds (kind_is x.kind) n in
        let fits = writing_fits P.rest ks _ kinds_piece in
        let next : at + u ≡ at + length ks = omega (arith, new_kinds_long (kind_is x.kind) n) in
        rw add-one
        (record {
          rest = writing_piece P.rest ks _ kinds_piece put next;
          xors = xors_after at ks b P.xors fits put next;
          long = ap length put ∙ put_length at ks b fits ∙ P.long;
        })

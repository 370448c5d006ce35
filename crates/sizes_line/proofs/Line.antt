-- The sizes program's line: what is told of an input is its line, 66 bytes hold it, and a cut input has the line of the whole.
-- Assumes nothing.
use mathlib.Core.Path.{◌≡◌, sym, ap, ◌∙◌}
use mathlib.Core.Bool.{Bool, true, false, cond}
use mathlib.Core.List.{List, [], ◌∷◌, ◌++◌}
use Prim.Native.Nat.{ℕ, zero, suc, ◌*◌, ◌≤◌, ◌<◌}
use native.Mathlib.Omega.{arith}
use lib.ListN.{length, get_or, take, drop}
use Rattle.tables.specs.declared.Refusal as DRefusal
use Rattle.std.specs.Prelude.{Ok, Err}
use Rattle.tables.specs.Refusals.{Fault, passed}
use Rattle.tables.specs.Refusing.{fault_of}
use Rattle.tables.specs.Tables.{table_of, table_long, table_fault}
use Rattle.tables.proofs.Tests.{first_refused}
use Rattle.tables.proofs.Answers.{refused_fails}
use Rattle.tables.proofs.Accept.{accepted_plain}
use Rattle.tables.proofs.Cut.{cut_fault, cut_refused}
use Rattle.text.specs.Text.{decimal, line_of, refusal_line}
use Rattle.text.proofs.Writing.{number_long, refusal_long}
use Rattle.construction.specs.Shares.{shares_of}
use Rattle.construction.specs.Gadgets.{isw}
use Rattle.construction.specs.Wires.{masked_table}
use Rattle.construction.proofs.Placed.{masked_outputs}
use Rattle.planning.specs.declared.Tally as DTally
use Rattle.planning.specs.Maskable.{maskable_fault}
use Rattle.planning.specs.Plans.{Tallied}
use Rattle.planning.proofs.Planning.{maskable_passed}
use Rattle.sizes_line.specs.declared.Six as DSix
use Rattle.sizes_line.specs.Lines.{six_line, table_line, printed}
use Rattle.sizes_line.specs.Inside.{SixOf, told_line}

-- the line of a table that 1 to 7 refuse
line_refused :
    (s : List ℕ) (o : ℕ) → passed (maskable_fault s o) ≡ false
    → table_line s o ≡ refusal_line (maskable_fault s o).number (maskable_fault s o).place
unfolding table_line
line_refused s o e = rw e

-- what is told of a table that 1 to 7 refuse
pub told_refused : (s : List ℕ) (o : ℕ) (e : DRefusal.Refusal) → maskable_fault s o ≡ fault_of e → told_line (Err e) ≡ table_line s o
told_refused s o e h =
    (λ j. refusal_line (sym h j).number (sym h j).place) ∙ sym (line_refused s o (refused_fails e h))

-- and of one that they accept
pub told_six :
    {s : List ℕ} {o : ℕ} {y : DTally.Tally} {z : DSix.Six} → Tallied s o y → SixOf o (table_of s) z → told_line (Ok z) ≡ table_line s o
unfolding table_line
told_six {s} {o} {y} {z} T F =
    let S = T.accepted in
    let m = masked_table isw o (table_of s) in
    let outputs : shares_of o * length (table_of s).outputs ≡ length m.outputs =
    sym (masked_outputs isw o (table_of s) (accepted_plain s S.table S.plain)).0 in
    let bytes : z.bytes ≡ table_long (length m.gates) (length m.outputs) =
    F.bytes ∙ (λ j. table_long (length m.gates) (outputs j)) in
    rw (maskable_passed S)
    (λ j. six_line (F.shares j) (F.wires j) (F.tape j) (bytes j) ((F.outputs ∙ outputs) j) (F.largest j))

-- 66 bytes hold the line
six_short : (a b c d e f : ℕ) → length (six_line a b c d e f) ≤ 66
unfolding line_of
six_short a b c d e f =
    let sixth : List ℕ = 32 ∷ (decimal f ++ (10 ∷ [])) in
    let fifth : List ℕ = 32 ∷ (decimal e ++ sixth) in
    let fourth : List ℕ = 32 ∷ (decimal d ++ fifth) in
    let third : List ℕ = 32 ∷ (decimal c ++ fourth) in
    omega (
      arith,
      number_long a (32 ∷ (decimal b ++ third)),
      number_long b third,
      number_long c fourth,
      number_long d fifth,
      number_long e sixth,
      number_long f (10 ∷ []),
    )

line_short : (s : List ℕ) (o : ℕ) → length (table_line s o) ≤ 66
unfolding table_line
line_short s o = go (passed (maskable_fault s o)) _ _ _ _ _ _ _ _
  where
    go : (t : Bool) (a b c d e f n p : ℕ) → length (cond t (six_line a b c d e f) (refusal_line n p)) ≤ 66
    go true a b c d e f n p = six_short a b c d e f
    go false a b c d e f n p = omega (arith, refusal_long n p)

pub line_fits : (s : List ℕ) → length (printed s) ≤ 66
line_fits s = line_short (drop 1 s) (get_or s 0 0)

-- an input of more than an order byte and the longest table, and the first m bytes of it, have the same line
cut_seven :
    (m : ℕ) (s : List ℕ) (o : ℕ) → ((i : ℕ) → get_or s i 0 < 256) → 458746 < m → m ≤ length s
    → (maskable_fault (take m s) o ≡ maskable_fault s o) × (passed (maskable_fault s o) ≡ false)
cut_seven m s o bytes h k =
    let e = cut_fault m s bytes h k in
    let bad = cut_refused m s bytes h k in
    let same = first_refused (table_fault s) _ bad in
    (first_refused (table_fault (take m s)) _ (ap passed e ∙ bad) ∙ e ∙ sym same, ap passed same ∙ bad)

cut_line :
    (m : ℕ) (s : List ℕ) (o : ℕ) → ((i : ℕ) → get_or s i 0 < 256) → 458746 < m → m ≤ length s
    → table_line (take m s) o ≡ table_line s o
cut_line m s o bytes h k =
    let both = cut_seven m s o bytes h k in
    line_refused (take m s) o (ap passed both.0 ∙ both.1)
    ∙ ap (λ (f : Fault). refusal_line f.number f.place) both.0
    ∙ sym (line_refused s o both.1)

pub cut_printed :
    (m : ℕ) (s : List ℕ) → ((i : ℕ) → get_or s i 0 < 256) → 458747 < m → m ≤ length s → printed (take m s) ≡ printed s
cut_printed m [] bytes h k = absurd (omega arith)
cut_printed zero (x ∷ s) bytes h k = absurd (omega arith)
cut_printed (suc m) (x ∷ s) bytes h k = cut_line m s x (λ i. bytes (suc i)) (omega arith) (omega arith)

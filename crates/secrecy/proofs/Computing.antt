-- Demand 2: encode, run, decode gives the plain table's outputs. The shares of every plain wire add up to its value, so the
-- groups of shares that are output decode to the plain outputs.
-- Assumes nothing.
use mathlib.Core.Path.{◌≡◌, refl, sym, ap, ap₂, ◌∙◌, subst}
use mathlib.Core.Bool.{true}
use mathlib.Core.List.{List, [], ◌∷◌, ◌++◌, map, flatten}
use Prim.Native.Nat.{ℕ, zero, suc, ◌+◌, ◌*◌, ◌%◌, ◌≤◌, ◌<◌}
use native.Mathlib.Nat.{mul-le-mul_left}
use native.Mathlib.Omega.{arith}
use lib.ListN.{length, get_or, take, drop}
use lib.Seq.{drop-cons}
use Rattle.tables.specs.Tables.{Table, wires}
use Rattle.tables.specs.Runs.{run, read_all}
use Rattle.tables.proofs.Lists.{All, all_map}
use Rattle.tables.proofs.Run.{Solves, run_solves, run_keep, read_length}
use Rattle.tables.proofs.Accept.{Plain, plain_earlier}
use Rattle.construction.specs.Shares.{shares_of, up_from}
use Rattle.construction.specs.Gadgets.{Gadget}
use Rattle.construction.specs.Wires.{input_shares, shares_after, output_shares, masked_table}
use Rattle.construction.specs.Codes.{encode, decode, masked_run}
use Rattle.construction.proofs.Sum.{sum_of, sum_cong, up_length, up_at, up_all}
use Rattle.construction.proofs.Lawful.{Lawful}
use Rattle.construction.proofs.Placed.{plain_inputs, shares_after_length}
use Rattle.construction.proofs.Codes.{encode_adds, decode_groups, decode_encode}
use Rattle.construction.proofs.Shares.{Shared, masked_shares}
use Rattle.secrecy.specs.Claims.{is_tape, are_secrets, Computes}
use Rattle.secrecy.proofs.Bits.{all_bits_lem}
use Rattle.secrecy.proofs.Begun.{secrets_are, tape_is, tape_front_long, begun_long, value_bits, values_solve, value_of_input}

read_sum : (vs ws : List ℕ) → sum_of (λ b. b) (read_all vs ws) ≡ sum_of (λ w. get_or vs w 0) ws
unfolding read_all sum_of
read_sum vs [] = refl
read_sum vs (w ∷ ws) = ap (λ (y : ℕ). get_or vs w 0 + y) (read_sum vs ws)

read_append : (vs ps qs : List ℕ) → read_all vs (ps ++ qs) ≡ read_all vs ps ++ read_all vs qs
unfolding read_all
read_append vs [] qs = refl
read_append vs (p ∷ ps) qs = ap (λ (l : List ℕ). get_or vs p 0 ∷ l) (read_append vs ps qs)

-- the values of the shares of the outputs, a group for each output
abbrev groups_of : List ℕ → List (List ℕ) → List ℕ → List (List ℕ)
groups_of vs S os = map (λ o. read_all vs (get_or S o [])) os

read_groups :
    (vs : List ℕ) (S : List (List ℕ)) (os : List ℕ) → read_all vs (output_shares S os) ≡ flatten (groups_of vs S os)
unfolding output_shares read_all flatten
read_groups vs S [] = refl
read_groups vs S (o ∷ os) =
    read_append vs (get_or S o []) (output_shares S os)
    ∙ ap (λ (l : List ℕ). read_all vs (get_or S o []) ++ l) (read_groups vs S os)

-- a window of values, added
window_sum :
    (n w : ℕ) (es : List ℕ) → w + n ≤ length es
    → sum_of (λ p. get_or es p 0) (up_from n w (λ p. p)) ≡ sum_of (λ b. b) (take n (drop w es))
unfolding up_from sum_of
window_sum zero w es h = refl
window_sum (suc n) w es h =
    rw (drop-cons es w 0 (omega arith)) (ap (λ (y : ℕ). get_or es w 0 + y) (window_sum n (suc w) es (omega arith)))

module _ (n : ℕ) (vs : List ℕ) (x : ℕ → ℕ) (S : List (List ℕ)) (sh : Shared n (λ p. get_or vs p 0) x S) where
  groups_long : (os : List ℕ) → All (λ o. o < length S) os → All (λ g. length g ≡ n) (groups_of vs S os)
  unfolding All
  groups_long [] a = tt
  groups_long (o ∷ os) a = (read_length vs (get_or S o []) ∙ (sh o a.0).0, groups_long os a.1)

  groups_add :
      (ps os : List ℕ) → All (λ o. o < length S) os → ((i : ℕ) → x i ≡ get_or ps i 0)
      → map (λ g. sum_of (λ b. b) g % 2) (groups_of vs S os) ≡ read_all ps os
  unfolding All read_all
  groups_add ps [] a e = refl
  groups_add ps (o ∷ os) a e =
      ap₂ (λ (y : ℕ) (l : List ℕ). y ∷ l)
      (ap (λ (y : ℕ). y % 2) (read_sum vs (get_or S o [])) ∙ (sh o a.0).1 ∙ e o)
      (groups_add ps os a.1 e)

module _ {G : Gadget} (L : Lawful G) (o : ℕ) (t : Table) (P : Plain t) where
  shared_inputs :
      (xs ts : List ℕ) → are_secrets t xs ≡ true → is_tape G o t ts ≡ true
      → Shared (shares_of o) (λ p. get_or (masked_run G o t xs ts) p 0) (λ i. get_or (run t xs []) i 0) (input_shares (shares_of o) t.inputs)
  unfolding run
  shared_inputs xs ts hx ht i h =
      let n = shares_of o in
      let vs = masked_run G o t xs ts in
      let es = encode o xs (take (2 * o * t.inputs) ts) in
      let secrets = secrets_are t xs hx in
      let hi : i < t.inputs = omega (arith, up_length t.inputs 0 (λ i. up_from n (n * i) (λ w. w))) in
      let at : get_or (input_shares n t.inputs) i [] ≡ up_from n (n * i) (λ w. w) =
      up_at t.inputs 0 (λ i. up_from n (n * i) (λ w. w)) i [] hi
      ∙ ap (λ (y : ℕ). up_from n (n * y) (λ w. w)) {x = 0 + i} {y = i} (omega arith) in
      let fits : n * i + n ≤ n * t.inputs = omega (arith, mul-le-mul_left n hi) in
      let long = begun_long L o t P xs ts hx ht in
      let same : sum_of (λ p. get_or vs p 0) (up_from n (n * i) (λ w. w)) ≡ sum_of (λ p. get_or es p 0) (up_from n (n * i) (λ w. w)) =
      sum_cong _ _ _ (up_all _ n (n * i) _ (λ p _ k. value_of_input L o t P xs ts hx ht p (omega arith))) in
      let sums : sum_of (λ p. get_or vs p 0) (up_from n (n * i) (λ w. w)) % 2 ≡ get_or xs i 0 =
      ap (λ (y : ℕ). y % 2) (same ∙ window_sum n (n * i) es (omega (arith, long)))
      ∙ encode_adds o xs _ i
      (tape_front_long L o t ts (tape_is G o t ts ht).0 ∙ rw secrets.0)
      secrets.1
      (omega (arith, secrets.0)) in
      let plain : get_or (run t xs []) i 0 ≡ get_or xs i 0 =
      run_keep t.gates [] xs i (omega (arith, (secrets_are t xs hx).0)) in
      rw at (up_length n (n * i) _, sums ∙ sym plain)

  shared_all :
      (xs ts : List ℕ) → are_secrets t xs ≡ true → is_tape G o t ts ≡ true
      → Shared (shares_of o) (λ p. get_or (masked_run G o t xs ts) p 0) (λ i. get_or (run t xs []) i 0)
      (shares_after (shares_of o) (shares_of o * t.inputs) (input_shares (shares_of o) t.inputs) t.gates)
  unfolding run
  shared_all xs ts hx ht =
      let n = shares_of o in
      let S = input_shares n t.inputs in
      let long : length S ≡ t.inputs = up_length t.inputs 0 _ in
      masked_shares L n 0 (n * t.inputs) 0 0 S t.gates _ _ (λ c. get_or {A = ℕ} [] c 0) _ (omega arith)
      (value_bits L o t P xs ts hx ht)
      (plain_inputs n t P)
      (values_solve L o t P xs ts hx ht)
      (subst (λ (y : ℕ). Solves y 0 t.gates (λ c. get_or {A = ℕ} [] c 0) (λ i. get_or (run t xs []) i 0)) (sym long)
      (run_solves t.inputs t.gates [] xs (secrets_are t xs hx).0 (plain_earlier t.inputs t.gates P.gates)))
      (shared_inputs xs ts hx ht)

  pub computes : Computes G t o
  unfolding masked_table
  computes =
      record {
        same_outputs = λ xs ts hx ht.
            let n = shares_of o in
            let vs = masked_run G o t xs ts in
            let S = shares_after n (n * t.inputs) (input_shares n t.inputs) t.gates in
            let sh = shared_all xs ts hx ht in
            let long : length S ≡ wires t =
            shares_after_length n (n * t.inputs) (input_shares n t.inputs) t.gates
            ∙ ap (λ (y : ℕ). y + length t.gates) (up_length t.inputs 0 _) in
            let below : All (λ i. i < length S) t.outputs =
            all_map _ _ (λ i h. omega (arith, long)) t.outputs P.outputs in
            ap (decode o) (read_groups vs S t.outputs)
            ∙ decode_groups o (groups_of vs S t.outputs) (groups_long n vs _ S sh t.outputs below)
            ∙ groups_add n vs _ S sh (run t xs []) t.outputs below (λ i. refl);
        decodes = λ xs ts hx ht long. decode_encode o xs ts (all_bits_lem xs hx) (all_bits_lem ts ht) long;
      }

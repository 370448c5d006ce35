-- Demand 3's heart: in two runs whose tapes differ by the map's flips, every wire of the masked table that does not carry the
-- free share has the same value; the input wires by the encoder, the others by their gates.
-- Assumes nothing.
use mathlib.Core.Path.{◌≡◌, sym, ap, ◌∙◌, subst}
use mathlib.Core.Bool.{true, false}
use mathlib.Core.List.{List, [], map}
use Prim.Native.Nat.{ℕ, suc, ◌+◌, ◌*◌, ◌≤◌, ◌<◌}
use native.Mathlib.Nat.{mul-le-mul_left}
use native.Mathlib.Omega.{arith}
use lib.ListN.{length, get_or, take, drop}
use lib.Seq.{take_at, drop_at}
use Rattle.tables.specs.Tables.{Table, total}
use Rattle.tables.specs.Runs.{xor}
use Rattle.tables.proofs.Lists.{All, bits_take, bits_drop}
use Rattle.tables.proofs.Accept.{Plain}
use Rattle.construction.specs.Shares.{shares_of, up_from}
use Rattle.construction.specs.Gadgets.{is_in, Gadget}
use Rattle.construction.specs.Wires.{origin_of, Origin, input_share, marks, input_shares, input_origins, masked_wires, shares_after, origins}
use Rattle.construction.specs.Counts.{draws}
use Rattle.construction.specs.Codes.{encode, masked_run}
use Rattle.construction.proofs.Sum.{up_length, up_at, up_all}
use Rattle.construction.proofs.Each.{Each, each_append, each_up, each_rows, each_map}
use Rattle.construction.proofs.Costs.{all_of, input_origins_length}
use Rattle.construction.proofs.Placed.{plain_inputs}
use Rattle.secrecy.specs.Maps.{flipped, input_flips}
use Rattle.secrecy.specs.Laws.{gates_flips, tape_flips}
use Rattle.secrecy.specs.Claims.{is_tape, are_secrets}
use Rattle.secrecy.proofs.Inputs.{flipped_take, flipped_drop, flipped_at, input_flips_length, encode_off}
use Rattle.secrecy.proofs.Flips.{gates_flips_length}
use Rattle.secrecy.proofs.Begun.{secrets_are, tape_is, tape_front_long, rest_long, value_bits, values_solve, value_of_input}
use Rattle.construction.proofs.Hiding.{Hiding, not_first}
use Rattle.secrecy.proofs.Agree.{Alike, Kept, masked_agrees}

module _ {G : Gadget} (H : Hiding G) (o : ℕ) (t : Table) (P : Plain t) (k : ℕ) (k1 : 1 ≤ k) (kn : k ≤ shares_of o)
    (xs ys ts ms : List ℕ) (hx : are_secrets t xs ≡ true) (hy : are_secrets t ys ≡ true) (ht : is_tape G o t ts ≡ true)
    (hm : is_tape G o t ms ≡ true)
    (law : ms ≡ flipped ts (tape_flips G o t k xs ys (masked_run G o t xs ts) (masked_run G o t ys ms))) where
  -- the values of both runs, and the tape bits of the inputs
  abbrev v : ℕ → ℕ
  v p = get_or (masked_run G o t xs ts) p 0

  abbrev u : ℕ → ℕ
  u p = get_or (masked_run G o t ys ms) p 0

  abbrev m : ℕ
  m = 2 * o * t.inputs

  -- what the gates flip
  abbrev fs : List ℕ
  fs = gates_flips G (shares_of o) k (shares_of o * t.inputs) (input_shares (shares_of o) t.inputs) t.gates v u

  -- a wire with an origin that does not carry k
  abbrev Same : ℕ → Origin → Type 0
  Same w x = is_in k (marks G x) ≡ false → v w ≡ u w

  same_length : length xs ≡ length ys
  same_length = (secrets_are t xs hx).0 ∙ sym (secrets_are t ys hy).0

  flips_long : length (input_flips o k xs ys) ≡ m
  flips_long = input_flips_length o k xs ys same_length ∙ rw (secrets_are t xs hx).0

  front : take m ms ≡ flipped (take m ts) (input_flips o k xs ys)
  unfolding tape_flips
  front =
      ap (take m) law
      ∙ flipped_take m ts _
      ∙ ap (flipped (take m ts)) (take_at (input_flips o k xs ys) _ _ flips_long)

  -- input share s of input i
  input_same :
      (i s : ℕ) → i < t.inputs → s < shares_of o → (suc s ≡ k → ⊥)
      → v (shares_of o * i + s) ≡ u (shares_of o * i + s)
  input_same i s hi hs off =
      let n = shares_of o in
      let below : n * i + s < n * t.inputs = omega (arith, mul-le-mul_left n hi) in
      value_of_input H.lawful o t P xs ts hx ht (n * i + s) below
      ∙ encode_off o k xs ys (take m ts) k1 kn same_length
      (secrets_are t xs hx).1
      (secrets_are t ys hy).1
      (bits_take m ts (tape_is G o t ts ht).1)
      (tape_front_long H.lawful o t ts (tape_is G o t ts ht).0 ∙ rw (secrets_are t xs hx).0)
      i s (omega (arith, (secrets_are t xs hx).0)) hs off
      ∙ ap (λ (l : List ℕ). get_or (encode o ys l) (n * i + s) 0) (sym front)
      ∙ sym (value_of_input H.lawful o t P ys ms hy hm (n * i + s) below)

  inputs_kept : Each Same 0 (input_origins (shares_of o) t.inputs)
  unfolding input_origins
  inputs_kept =
      let n = shares_of o in
      each_rows Same n t.inputs 0 (λ w i. up_from n 0 (λ s. input_share i s)) (all_of _ (λ i w. up_length n 0 _) _)
      (λ i hi.
      each_up Same n 0 (0 + n * i) (λ s. input_share i s)
      (λ s hs lacks.
      subst (λ (w : ℕ). v w ≡ u w) {x = n * i + s} {y = 0 + n * i + s} (omega arith)
      (input_same i s hi hs (λ e. (not_first k (suc (0 + s)) [] lacks).0 (omega arith)))))

  pub inputs_alike : All (Alike (shares_of o) v u k) (input_shares (shares_of o) t.inputs)
  inputs_alike =
      let n = shares_of o in
      up_all _ t.inputs 0 (λ i. up_from n (n * i) (λ w. w))
      (λ i _ hi. (
        up_length n (n * i) _,
        λ s hs off.
            let h : s < n = omega (arith, up_length n (n * i) (λ (w : ℕ). w)) in
            rw (up_at n (n * i) (λ (w : ℕ). w) s 0 h) (input_same i s (omega arith) h off),
      ))

  random_flips :
      (q : ℕ) → q < total (λ kd. draws kd (shares_of o)) t.gates
      → get_or (drop m ms) (0 + q) 0 ≡ xor (get_or (drop m ts) (0 + q) 0) (get_or fs q 0)
  unfolding tape_flips
  random_flips q h =
      let rest : drop m ms ≡ flipped (drop m ts) fs =
      ap (drop m) law
      ∙ flipped_drop m ts _
      ∙ ap (flipped (drop m ts)) (drop_at (input_flips o k xs ys) fs m flips_long) in
      let e : 0 + q ≡ q = omega arith in
      rw e
      (ap (λ (l : List ℕ). get_or l q 0) rest
      ∙ flipped_at (drop m ts) fs q
      (omega (arith, rest_long H.lawful o t ts (tape_is G o t ts ht).0))
      (omega (
        arith,
        gates_flips_length G (shares_of o) k (shares_of o * t.inputs) (input_shares (shares_of o) t.inputs) t.gates
            v
            u,
      )))

  -- the wires of the gates that do not carry k, and the shares of every plain wire off k
  both_kept :
      Each (Kept G k v u) (shares_of o * t.inputs) (masked_wires G o t)
      × All (Alike (shares_of o) v u k)
      (shares_after (shares_of o) (shares_of o * t.inputs) (input_shares (shares_of o) t.inputs) t.gates)
  both_kept =
      let n = shares_of o in
      masked_agrees H n 0 (n * t.inputs) 0 k (input_shares n t.inputs) t.gates _ _ _ _ (omega arith)
      (plain_inputs n t P)
      (value_bits H.lawful o t P xs ts hx ht)
      (value_bits H.lawful o t P ys ms hy hm)
      (bits_drop m ts (tape_is G o t ts ht).1)
      (values_solve H.lawful o t P xs ts hx ht)
      (values_solve H.lawful o t P ys ms hy hm)
      random_flips
      inputs_alike

  -- the outputs' shares among them
  pub shares_kept :
      All (Alike (shares_of o) v u k)
      (shares_after (shares_of o) (shares_of o * t.inputs) (input_shares (shares_of o) t.inputs) t.gates)
  shares_kept = both_kept.1

  pub all_kept : Each Same 0 (origins G o t)
  unfolding origins
  all_kept =
      let n = shares_of o in
      each_append Same 0 (input_origins n t.inputs) (map origin_of (masked_wires G o t)) inputs_kept
      (subst (λ (w : ℕ). Each Same w (map origin_of (masked_wires G o t)))
      {x = n * t.inputs}
      (omega (arith, input_origins_length n t.inputs))
      (each_map _ Same origin_of (λ w x h. h) (n * t.inputs) (masked_wires G o t) both_kept.0))

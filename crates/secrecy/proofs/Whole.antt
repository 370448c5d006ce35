-- Demands 2 and 3 and the further laws, for every accepted table and order: `demands` and `laws` are what a
-- visitor looks for; `decides` is Card 3's law, `packed_demands` is demand 3 for packed tapes.
-- Assumes nothing.
use mathlib.Core.Path.{◌≡◌, refl, sym, ap, ◌∙◌, subst}
use mathlib.Core.Bool.{true, false, ◌&&◌}
use mathlib.Core.List.{List, [], ◌∷◌}
use Prim.Native.Nat.{ℕ, ◌+◌, ◌*◌, ◌≤◌, ◌<◌}
use native.Mathlib.Omega.{arith}
use borrow.Author.Tests.{leb-true}
use lib.Dec.{leb}
use lib.ListN.{length, get_or, drop}
use Rattle.tables.specs.Refusals.{passed}
use Rattle.tables.specs.Tables.{Table, wires, table_of, table_fault, random_fault}
use Rattle.tables.specs.Runs.{read_all, probe_reads, of_each}
use Rattle.tables.proofs.Tests.{and_true}
use Rattle.tables.proofs.Lists.{All, all_append, all_back, all_map}
use Rattle.tables.proofs.Pins.{reads_wires}
use Rattle.tables.proofs.Accept.{Plain, accepted_plain}
use Rattle.construction.specs.Shares.{shares_of}
use Rattle.construction.specs.declared.And as DAnd
use Rattle.construction.specs.Gadgets.{is_in, Gadget, gadget_of}
use Rattle.construction.specs.Wires.{masked_table, origins, tape_long, input_share, origin_at, wire_marks, probe_marks, input_shares, shares_after}
use Rattle.construction.specs.Codes.{masked_run}
use Rattle.construction.specs.Says.{order_ok}
use Rattle.construction.proofs.Lawful.{Lawful, lawful}
use Rattle.construction.proofs.Each.{each_at}
use Rattle.construction.proofs.Joined.{joined_in}
use Rattle.construction.proofs.Placed.{masked_earlier}
use Rattle.construction.proofs.Pins.{probe_marks_lem}
use Rattle.secrecy.specs.Maps.{single, carried, free_share, flipped, mapped_at}
use Rattle.secrecy.specs.Claims.{accepted, is_tape, are_secrets, are_probes, all_below, read_by, Tapes, in_bits, EachOnce, HidesAt, Hides, Demands}
use Rattle.secrecy.specs.Packed.{in_bytes, PackedDemands}
use Rattle.secrecy.specs.Laws.{tape_flips, Free, Laws, CountsDecide}
use Rattle.secrecy.proofs.Bits.{all_below_lem}
use Rattle.secrecy.proofs.Count.{bits_once, indistinct}
use Rattle.secrecy.proofs.Packed.{packs, bytes_once, in_bytes_lem}
use Rattle.secrecy.proofs.Free.{free_laws, few_carried, marks_two, uncarried_each}
use Rattle.construction.proofs.Hiding.{Hiding, hiding}
use Rattle.secrecy.proofs.TwoRuns.{two_runs, mapped_tape, mapped_back}
use Rattle.secrecy.proofs.Agree.{Alike}
use Rattle.secrecy.proofs.Kept.{inputs_alike, shares_kept, all_kept}
use Rattle.secrecy.proofs.Joins.{joins}
use Rattle.secrecy.proofs.Computing.{computes}
use Rattle.secrecy.proofs.Written.{sized, written}
use Rattle.secrecy.proofs.Counted.{counts_decide}

-- reading wires whose values are the same
read_same :
    (vs us os : List ℕ) → All (λ p. get_or vs p 0 ≡ get_or us p 0) os → read_all us os ≡ read_all vs os
unfolding All read_all
read_same vs us [] a = refl
read_same vs us (p ∷ ps) a = rw a.0 (ap (λ (l : List ℕ). get_or us p 0 ∷ l) (read_same vs us ps a.1))

-- and what reading the same says of each
same_each :
    (vs us os : List ℕ) → read_all us os ≡ read_all vs os → All (λ p. get_or vs p 0 ≡ get_or us p 0) os
unfolding All read_all
same_each vs us [] e = tt
same_each vs us (p ∷ ps) e =
    (sym (ap (λ (l : List ℕ). get_or l 0 0) e), same_each vs us ps (ap (λ (l : List ℕ). drop 1 l) e))

-- what holds of each wire that the probes read holds of the first that each reads
first_each :
    (P : ℕ → Type 0) (f : ℕ → List ℕ) (ps : List ℕ) → All P (of_each (λ p. p ∷ f p) ps) → All P (of_each (λ p. p ∷ []) ps)
unfolding All of_each
first_each P f [] a = tt
first_each P f (p ∷ ps) a = (a.0, first_each P f ps (all_back P (f p) (of_each (λ p. p ∷ f p) ps) a.1))

all_both :
    {A : Type 0} (P Q R : A → Type 0) → ((x : A) → P x → Q x → R x) → (xs : List A) → All P xs → All Q xs → All R xs
unfolding All
all_both P Q R f [] a b = tt
all_both P Q R f (x ∷ xs) a b = (f x a.0 b.0, all_both P Q R f xs a.1 b.1)

all_each :
    (P : ℕ → Type 0) (f : ℕ → List ℕ) (ps : List ℕ) → All (λ p. All P (f p)) ps → All P (of_each f ps)
unfolding All of_each
all_each P f [] a = tt
all_each P f (p ∷ ps) a = all_append P (f p) (of_each f ps) a.0 (all_each P f ps a.1)

-- single values are those of the probes themselves
pub each_single : (t : Table) (ps : List ℕ) → of_each (single t) ps ≡ ps
unfolding of_each
each_single t [] = refl
each_single t (p ∷ ps) = ap (λ (l : List ℕ). p ∷ l) (each_single t ps)

-- what hiding needs of the marks and of what a probe reads: a probe carries two share numbers at most, and where its marks lack a
-- share number, so do those of every wire that it reads
pub record Covers (G : Gadget) (mk : ℕ → Table → ℕ → List ℕ) (rd : Table → ℕ → List ℕ) (t : Table) (o : ℕ) : Type 0 where
  pub few : (p : ℕ) → p < wires (masked_table G o t) → length (mk o t p) ≤ 2
  pub lacks :
      (k p : ℕ) → p < wires (masked_table G o t) → is_in k (mk o t p) ≡ false
      → All (λ w. (w < wires (masked_table G o t)) × (is_in k (wire_marks G o t w) ≡ false)) (rd (masked_table G o t) p)

-- single values, and each wire's own marks
pub covers_single : {G : Gadget} → Lawful G → (t : Table) (o : ℕ) → Covers G (wire_marks G) single t o
unfolding All
covers_single {G} L t o =
    record {
      few = λ p h. marks_two L (origin_at (origins G o t) p);
      lacks = λ k p h e. ((h, e), tt);
    }

-- a wire and its pins, and their marks joined
pub covers_pins : {G : Gadget} → Lawful G → (t : Table) (o : ℕ) → Plain t → Covers G (probe_marks G) probe_reads t o
unfolding masked_table probe_marks
covers_pins {G} L t o P =
    let m = masked_table G o t in
    record {
      few = λ p h. (probe_marks_lem L o t P p h).1;
      lacks = λ k p h e.
          all_both _ _ _ (λ w l n. (l, n)) (probe_reads m p)
          (reads_wires m p (masked_earlier L o t P) h)
          (uncarried_each (wire_marks G o t) k (probe_reads m p) (sym (joined_in k (of_each (wire_marks G o t) (probe_reads m p))) ∙ e));
    }

-- what probes read with their pins are wires of the masked table
pub pins_below :
    {G : Gadget} → Lawful G → (t : Table) (o : ℕ) → Plain t → (ps : List ℕ) → All (λ p. p < wires (masked_table G o t)) ps
    → All (λ p. p < wires (masked_table G o t)) (read_by G probe_reads o t ps)
unfolding masked_table
pins_below {G} L t o P ps below =
    let m = masked_table G o t in
    all_each _ (probe_reads m) ps (all_map _ _ (λ p h. reads_wires m p (masked_earlier L o t P) h) ps below)

-- where a probe's pins keep their values too, its wire does
pub pins_single :
    (F : ℕ → Tapes) → ((n : ℕ) → EachOnce (F n)) → (G : Gadget) (mk : ℕ → Table → ℕ → List ℕ) (t : Table) (o : ℕ)
    → Hides F G mk probe_reads t o → Hides F G mk single t o
pins_single F E G mk t o H ps hp xs ys hx hy =
    let I = H ps hp xs ys hx hy in
    indistinct (F (tape_long G o t)) (E (tape_long G o t)) _ _ I.a_tape I.leads_back _ _
    (λ ts ht.
    read_same _ _ (read_by G single o t ps)
    (first_each _ _ ps (same_each _ _ (read_by G probe_reads o t ps) (I.same_seen ts ht))))

module _ {G : Gadget} (H : Hiding G) (t : Table) (o : ℕ) (P : Plain t) (k : ℕ) where
  -- the wire w has the same value in the run of xs with the tape ts and in that of ys with the mapped tape
  abbrev pub KeptAt : List ℕ → List ℕ → List ℕ → ℕ → Type 0
  KeptAt xs ys ts w = get_or (masked_run G o t xs ts) w 0 ≡ get_or (masked_run G o t ys (mapped_at G o t k xs ys ts)) w 0

  -- wires that are kept tell nothing
  pub hides_at :
      (ws : List ℕ)
      → ((xs ys ts : List ℕ) → are_secrets t xs ≡ true → are_secrets t ys ≡ true → is_tape G o t ts ≡ true
      → All (KeptAt xs ys ts) ws)
      → HidesAt in_bits G o t k ws
  hides_at ws kept xs ys hx hy =
      indistinct (in_bits (tape_long G o t)) (bits_once (tape_long G o t)) _ _
      (λ ts ht. mapped_tape H.lawful t o k P xs ys ts hx hy ht)
      (λ ts ht. mapped_back H.lawful t o k P xs ys ts hx hy ht)
      _
      _
      (λ ts ht. read_same _ _ ws (kept xs ys ts hx hy ht))

  module _ (k1 : 1 ≤ k) (kn : k ≤ shares_of o) (xs ys ts : List ℕ) (hx : are_secrets t xs ≡ true)
      (hy : are_secrets t ys ≡ true) (ht : is_tape G o t ts ≡ true) where
    abbrev ms : List ℕ
    ms = mapped_at G o t k xs ys ts

    hm : is_tape G o t ms ≡ true
    hm = mapped_tape H.lawful t o k P xs ys ts hx hy ht

    law : ms ≡ flipped ts (tape_flips G o t k xs ys (masked_run G o t xs ts) (masked_run G o t ys ms))
    law = (two_runs H.lawful H.unflipped t o k P).flips xs ys ts hx hy ht

    -- a wire that does not carry k is kept
    pub lacking_kept :
        (w : ℕ) → (w < wires (masked_table G o t)) × (is_in k (wire_marks G o t w) ≡ false) → KeptAt xs ys ts w
    lacking_kept w h =
        subst (KeptAt xs ys ts)
        {x = 0 + w}
        (omega arith)
        (each_at _ 0 (origins G o t) w (input_share 0 0)
        (all_kept H o t P k k1 kn xs ys ts ms hx hy ht hm law)
        (omega (arith, h.0, (sized H.lawful o t P).origins_are))
        h.1)

    -- so are the shares off k of every input, and of every plain wire
    pub inputs_off_kept :
        All (Alike (shares_of o) (λ p. get_or (masked_run G o t xs ts) p 0) (λ p. get_or (masked_run G o t ys ms) p 0) k)
        (input_shares (shares_of o) t.inputs)
    inputs_off_kept = inputs_alike H o t P k k1 kn xs ys ts ms hx hy ht hm law

    pub shares_off_kept :
        All (Alike (shares_of o) (λ p. get_or (masked_run G o t xs ts) p 0) (λ p. get_or (masked_run G o t ys ms) p 0) k)
        (shares_after (shares_of o) (shares_of o * t.inputs) (input_shares (shares_of o) t.inputs) t.gates)
    shares_off_kept = shares_kept H o t P k k1 kn xs ys ts ms hx hy ht hm law

module _
    {G : Gadget} (H : Hiding G) {mk : ℕ → Table → ℕ → List ℕ} {rd : Table → ℕ → List ℕ} (t : Table) (o : ℕ)
    (C : Covers G mk rd t o) (P : Plain t)
  where
    -- what probes read that do not carry k is kept
    pub read_kept :
        (k : ℕ) → 1 ≤ k → k ≤ shares_of o → (ps : List ℕ) → All (λ p. p < wires (masked_table G o t)) ps
        → is_in k (carried mk o t ps) ≡ false
        → (xs ys ts : List ℕ) → are_secrets t xs ≡ true → are_secrets t ys ≡ true → is_tape G o t ts ≡ true
        → All (KeptAt H t o P k xs ys ts) (read_by G rd o t ps)
    read_kept k k1 kn ps below lacks xs ys ts hx hy ht =
        all_each _ (rd (masked_table G o t)) ps
        (all_both _ _ _
        (λ p h l.
        all_map _ _ (lacking_kept H t o P k k1 kn xs ys ts hx hy ht) (rd (masked_table G o t) p) (C.lacks k p h l))
        ps
        below
        (uncarried_each (mk o t) k ps lacks))

    module _ (ps : List ℕ) (hp : are_probes G o t ps ≡ true) where
      below : All (λ p. p < wires (masked_table G o t)) ps
      below = all_below_lem (wires (masked_table G o t)) ps (and_true (leb (length ps) o) _ hp).1

      pub free_of : Free (shares_of o) (carried mk o t ps) (free_share mk o t ps)
      unfolding free_share
      free_of =
          let few = leb-true (length ps) o (and_true _ (all_below (wires (masked_table G o t)) ps) hp).0 in
          free_laws (shares_of o) (carried mk o t ps) (few_carried (mk o t) o ps (all_map _ _ C.few ps below) few)

    pub hides : Hides in_bits G mk rd t o
    hides ps hp =
        let free = free_of ps hp in
        hides_at H t o P (free_share mk o t ps) (read_by G rd o t ps)
        (read_kept (free_share mk o t ps) free.from_1 free.to_n ps (below ps hp) free.uncarried)

-- and with packed tapes
pub hides_packed :
    (G : Gadget) (mk : ℕ → Table → ℕ → List ℕ) (rd : Table → ℕ → List ℕ) (t : Table) (o : ℕ) → Hides in_bits G mk rd t o
    → Hides in_bytes G mk rd t o
hides_packed G mk rd t o H ps hp =
    in_bytes_lem (tape_long G o t) (are_secrets t) (mapped_at G o t (free_share mk o t ps))
    (λ xs ts. read_all (masked_run G o t xs ts) (read_by G rd o t ps))
    (H ps hp)

accepted_is : (s : List ℕ) (o : ℕ) → accepted s o ≡ true → Plain (table_of s)
accepted_is s o h =
    let a = and_true (passed (table_fault s)) (order_ok o && passed (random_fault 0 (table_of s).gates)) h in
    accepted_plain s a.0 (and_true (order_ok o) _ a.1).1

-- for every AND that there is: demands 2 and 3
module _ (a : DAnd.And) where
  pub demands : Demands (gadget_of a)
  demands =
      record {
        second = λ s o h. computes (lawful a) o (table_of s) (accepted_is s o h);
        third =
            record {
              tapes = bits_once;
              with_pins = λ s o h.
                  let P = accepted_is s o h in
                  hides (hiding a) (table_of s) o (covers_pins (lawful a) (table_of s) o P) P;
              single_values = λ s o h. hides (hiding a) (table_of s) o (covers_single (lawful a) (table_of s) o) (accepted_is s o h);
            };
        written_back = written (lawful a);
      }

  -- demand 3 for packed tapes
  pub packed_demands : PackedDemands (gadget_of a)
  packed_demands =
      record {
        one_to_one = packs;
        third =
            record {
              tapes = bytes_once;
              with_pins = λ s o h. hides_packed (gadget_of a) (probe_marks (gadget_of a)) probe_reads (table_of s) o (demands.third.with_pins s o h);
              single_values = λ s o h. hides_packed (gadget_of a) (wire_marks (gadget_of a)) single (table_of s) o (demands.third.single_values s o h);
            };
      }

  -- the counts decide the forecast
  pub decides : CountsDecide (gadget_of a)
  decides = counts_decide (lawful a)

  -- the further laws
  pub laws : Laws (gadget_of a)
  laws =
      record {
        sized = λ s o h. sized (lawful a) o (table_of s) (accepted_is s o h);
        free = λ s o ps h hp.
            let P = accepted_is s o h in
            free_of (hiding a) (table_of s) o (covers_pins (lawful a) (table_of s) o P) P ps hp;
        joins = λ s o w h k. joins (lawful a) o (table_of s) (accepted_is s o h) w k;
        single_values = λ F E s o mk H. pins_single F E (gadget_of a) mk (table_of s) o H;
        two_runs = λ s o k h. two_runs (lawful a) (hiding a).unflipped (table_of s) o k (accepted_is s o h);
      }

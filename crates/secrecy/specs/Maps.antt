-- The free share and the mapped tape (document 01, "Marks and the mapped tape"). The free share and the mapped tape are the
-- paper's own terms. A flip is 0 or 1 for each tape bit; the mapped tape is built gate by gate, both runs going along, so that
-- "what an AND flips depends only on what is built before it".
-- Assumes nothing.
use Rattle.std.specs.Prelude.{true, false, cond, List, [], ◌∷◌, ◌++◌, map, ℕ, zero, suc, ◌+◌, ◌-◌, ◌*◌, eqb, length, get_or, take, drop}
use Rattle.tables.specs.Tables.{Kind, NOT, XOR, AND, RANDOM, CONSTANT, OR, UNKNOWN, Gate, Table}
use Rattle.tables.specs.Runs.{xor, run_from, of_each}
use Rattle.construction.specs.Shares.{shares_of, up_from, Pair, pairs}
use Rattle.construction.specs.Gadgets.{is_in, differs, Gadget}
use Rattle.construction.specs.Wires.{driver_of, share, new_wires, cost, new_shares, input_shares}
use Rattle.construction.specs.Codes.{encode}

-- "A probe reads the value of one wire": the wires that a probe reads, without its pins
abbrev pub single : Table → ℕ → List ℕ
single t w = w ∷ []

-- the share numbers that the probes carry: "Repeated probes count each time"; mk gives the marks of a probe
abbrev pub carried : (ℕ → Table → ℕ → List ℕ) → ℕ → Table → List ℕ → List ℕ
carried mk o t ps = of_each (mk o t) ps

-- the smallest number from k on that is not in the list, looking at c numbers
unfoldable pub free_from : ℕ → ℕ → List ℕ → ℕ
free_from zero k cs = k
free_from (suc c) k cs = elim (is_in k cs) [ true ↦ free_from c (suc k) cs | false ↦ k ]

-- "the smallest share number that no probe carries; an empty list has k = 1", by the marks mk
unfoldable pub free_share : (ℕ → Table → ℕ → List ℕ) → ℕ → Table → List ℕ → ℕ
free_share mk o t ps = free_from (shares_of o) 1 (carried mk o t ps)

-- a tape with some bits flipped; "All else is kept"
unfoldable pub flipped : List ℕ → List ℕ → List ℕ
flipped [] fs = []
flipped (t ∷ ts) [] = t ∷ ts
flipped (t ∷ ts) (f ∷ fs) = xor t f ∷ flipped ts fs

-- of each input's c bits, number k is flipped where the secrets differ
unfoldable pub each_flip : ℕ → ℕ → List ℕ → List ℕ → List ℕ
each_flip c k [] ys = []
each_flip c k (x ∷ xs) [] = []
each_flip c k (x ∷ xs) (y ∷ ys) = up_from c 1 (λ s. cond (eqb s k) (xor x y) 0) ++ each_flip c k xs ys

-- "Where k ≤ 2t, tape bit k of each input is flipped if x and y differ there"
abbrev pub input_flips : ℕ → ℕ → List ℕ → List ℕ → List ℕ
input_flips o k xs ys = each_flip (2 * o) k xs ys

-- what one pair flips: a and b give the values of the shares that the AND multiplies in the first run, a' and b' in the second
abbrev pub pair_flip : Gadget → ℕ → (ℕ → ℕ) → (ℕ → ℕ) → (ℕ → ℕ) → (ℕ → ℕ) → Pair → ℕ
pair_flip G k a b a' b' p =
    let i = p.lower in
    let j = p.upper in
    G.flip k (suc i) (suc j) (differs (a i) (b j) (a' i) (b' j)) (differs (a j) (b i) (a' j) (b' i))

-- what an AND flips: in document 01's "z(k,j) for j>k is flipped if a_k·b_j⊕a_j·b_k differs", in the DOM AND r of a pair of k and j
-- "if a_j·b_k differs" (Card 8)
abbrev pub and_flips : Gadget → ℕ → ℕ → (ℕ → ℕ) → (ℕ → ℕ) → (ℕ → ℕ) → (ℕ → ℕ) → List ℕ
and_flips G n k a b a' b' = map (pair_flip G k a b a' b') (pairs n)

-- the values of shares in a run
abbrev pub values_of : (ℕ → ℕ) → List ℕ → ℕ → ℕ
values_of v a s = v (share a s)

-- the NOT of share 1, and the other shares
abbrev pub first_not : (ℕ → ℕ) → ℕ → ℕ
first_not a zero = 1 - a 0
first_not a (suc s) = a (suc s)

-- what a plain gate flips of its random bits: those of its AND, also where this is inside an OR
abbrev pub gate_flips : Gadget → Kind → ℕ → ℕ → List ℕ → List ℕ → (ℕ → ℕ) → (ℕ → ℕ) → List ℕ
gate_flips G NOT n k a b v u = []
gate_flips G XOR n k a b v u = []
gate_flips G AND n k a b v u = and_flips G n k (values_of v a) (values_of v b) (values_of u a) (values_of u b)
gate_flips G RANDOM n k a b v u = []
gate_flips G CONSTANT n k a b v u = []
gate_flips G OR n k a b v u =
    and_flips G n k
    (first_not (values_of v a))
    (first_not (values_of v b))
    (first_not (values_of u a))
    (first_not (values_of u b))
gate_flips G (UNKNOWN c) n k a b v u = []

-- "the ANDs in table order": from gate g and wire w on, where S lists the shares so far, rs are the random bits of the first
-- run, and vs and us are the values of both runs so far; what comes back are the random bits of the second run
unfoldable pub map_gates : Gadget → ℕ → ℕ → ℕ → ℕ → List (List ℕ) → List Gate → List ℕ → List ℕ → List ℕ → List ℕ
map_gates G n k g w S [] rs vs us = rs
map_gates G n k g w S (x ∷ xs) rs vs us =
    let a = get_or S x.left [] in
    let b = get_or S x.right [] in
    let fs = gate_flips G x.kind n k a b (λ p. get_or vs p 0) (λ p. get_or us p 0) in
    let ss = flipped (take (length fs) rs) fs in
    let gs = map driver_of (new_wires G x.kind x.left n g w a b) in
    ss
    ++ map_gates G n k (suc g) (w + cost x.kind n)
    (S ++ (new_shares x.kind n w a ∷ []))
    xs
    (drop (length fs) rs)
    (run_from gs rs vs)
    (run_from gs ss us)

-- "From secrets x and y, a tape and a probe list, the mapped tape is built thus, inputs first, then the ANDs in table order",
-- with the free share k of the list
unfoldable pub mapped_at : Gadget → ℕ → Table → ℕ → List ℕ → List ℕ → List ℕ → List ℕ
mapped_at G o t k xs ys tape =
    let n = shares_of o in
    let m = 2 * o * t.inputs in
    let first = flipped (take m tape) (input_flips o k xs ys) in
    first
    ++ map_gates G n k 0 (n * t.inputs)
    (input_shares n t.inputs)
    t.gates
    (drop m tape)
    (encode o xs (take m tape))
    (encode o ys first)

-- the mapped tape of a probe list, by the marks mk
abbrev pub mapped :
    Gadget → (ℕ → Table → ℕ → List ℕ) → ℕ → Table → List ℕ → List ℕ → List ℕ → List ℕ → List ℕ
mapped G mk o t xs ys tape ps = mapped_at G o t (free_share mk o t ps) xs ys tape

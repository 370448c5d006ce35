-- Decoding bit by bit: the XOR of a group, and the sums of the groups so far.
-- Assumes nothing.
use mathlib.Core.Path.{◌≡◌, refl, sym, ap, ◌∙◌}
use mathlib.Core.List.{List, [], ◌∷◌, ◌++◌}
use Prim.Native.Nat.{ℕ, zero, suc, ◌+◌, ◌*◌, ◌/◌, ◌≤◌, ◌<◌}
use native.Mathlib.Nat.{mul-zero, zero-add, mul-div-le, div-le_self}
use native.Mathlib.Numerals.{add-one}
use native.Mathlib.Omega.{arith}
use lib.Bits.{bit_xor}
use lib.ListN.{length, take, drop, set}
use lib.Seq.{drop-drop}
use Rattle.std.specs.Prelude.{Ok}
use Rattle.std.specs.List.{fold}
use Rattle.tables.specs.Refusals.{none}
use Rattle.tables.specs.Runs.{xor}
use Rattle.tables.specs.Refusing.{answer_of}
use Rattle.tables.specs.Inside.{Bits}
use Rattle.tables.specs.Says.{over}
use Rattle.tables.proofs.Put.{put_zero, put_set, put_append, over_length}
use Rattle.tables.proofs.Answers.{none_passed, writes_done}
use Rattle.construction.specs.Codes.{xor_all, decode_from, decode}
use Rattle.construction.specs.Says.{decode_fault, DecodeSays}
use Rattle.tables.proofs.Run.{bit_xor_lem}
use Rattle.construction.proofs.Codes.{decode_from_length, decode_length}
use Rattle.construction.proofs.CodeFaults.{decode_passed}

-- the XOR of bits as the bytes' XOR
pub fold_xor : (v : ℕ) (bs : List ℕ) → v ≤ 1 → Bits bs → fold bit_xor v bs ≡ xor_all v bs
unfolding xor_all
fold_xor v [] h bits = refl
fold_xor v (b ∷ bs) h bits =
    let add : bit_xor v b ≡ xor v b = bit_xor_lem v b h (bits 0) in
    rw add (fold_xor (xor v b) bs (omega arith) (λ i. bits (suc i)))

-- one sum more
decode_from_next :
    (i n : ℕ) (bs : List ℕ)
    → decode_from i n bs ++ (xor_all 0 (take n (drop (n * i) bs)) ∷ []) ≡ decode_from (suc i) n bs
unfolding decode_from
decode_from_next zero n bs = rw mul-zero refl
decode_from_next (suc i) n bs =
    let step : n * suc i ≡ n + n * i = omega arith in
    rw (step, ← drop-drop (n * i) n bs) (ap (λ (l : List ℕ). xor_all 0 (take n bs) ∷ l) (decode_from_next i n (drop n bs)))

-- one byte more at the front of a buffer
over_next :
    (xs : List ℕ) (v : ℕ) (b : List ℕ) {i : ℕ} → i ≡ length xs → i < length b
    → set (over xs b) i v ≡ over (xs ++ (v ∷ [])) b
over_next xs v b e h =
    let put = put_append 0 xs (v ∷ []) b (omega arith) in
    rw e
    (put_set (length xs) v (over xs b) (omega (arith, over_length xs b (omega arith)))
    ∙ rw (← put_zero xs b, ← put_zero (xs ++ (v ∷ [])) b) (rw zero-add at put))

-- the sums of the first i groups are written
pub decoding_long :
    (i n : ℕ) (bs b₀ : List ℕ) → i ≤ length b₀ → length (over (decode_from i n bs) b₀) ≡ length b₀
decoding_long i n bs b₀ h = over_length (decode_from i n bs) b₀ (omega (arith, decode_from_length i n bs))

pub decoding_turn :
    (i n : ℕ) (bs b₀ : List ℕ) → i < length b₀
    → set (over (decode_from i n bs) b₀) i (xor_all 0 (take n (drop (n * i) bs))) ≡ over (decode_from (i + 1) n bs) b₀
decoding_turn i n bs b₀ h =
    let sum = xor_all 0 (take n (drop (n * i) bs)) in
    rw (add-one, ← decode_from_next i n bs)
    (over_next (decode_from i n bs) sum b₀ (sym (decode_from_length i n bs)) h)

-- a decoding that nothing refuses: what writing asks for, and what the call then says
pub decode_ready :
    (o : ℕ) (bs : List ℕ) (room : ℕ) → decode_fault o bs room ≡ none
    → ((2 * o + 1) * (length bs / (2 * o + 1)) ≤ length bs) × (length bs / (2 * o + 1) ≤ room) × Bits bs
decode_ready o bs room h =
    let passes = decode_passed o bs room (none_passed h) in
    (mul-div-le _ _, rw add-one passes.fits, passes.bits)

pub decode_small : (o : ℕ) (bs : List ℕ) (room : ℕ) → decode_fault o bs room ≡ none → length bs / (2 * o + 1) < 65536
decode_small o bs room h =
    let passes = decode_passed o bs room (none_passed h) in
    omega (arith, passes.few, div-le_self (length bs) (2 * o + 1))

pub decode_writes :
    (o : ℕ) (bs b : List ℕ) {b' : List ℕ} → decode_fault o bs (length b) ≡ none
    → b' ≡ over (decode_from (length bs / (2 * o + 1)) (2 * o + 1) bs) b
    → DecodeSays o bs b b' (answer_of (Ok (length bs / (2 * o + 1))))
unfolding decode
decode_writes o bs b h e =
    writes_done (decode o bs) b h (rw add-one (sym (decode_length o bs))) (rw add-one at e)

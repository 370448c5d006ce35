-- Both runs begun: the mapped tape begins as the tape, and the second encoding is the first with share k flipped.
-- Assumes nothing.
use mathlib.Core.Path.{◌≡◌, sym, ap, ◌∙◌}
use mathlib.Core.List.{List}
use Prim.Native.Nat.{ℕ, ◌*◌, ◌≤◌}
use native.Mathlib.Omega.{arith}
use lib.ListN.{length, take, drop}
use lib.Seq.{take_at}
use Rattle.tables.specs.Packing.{unpacked, tape_of}
use Rattle.tables.specs.Says.{over}
use Rattle.tables.specs.Inside.{Bits, put_at}
use Rattle.tables.proofs.Lists.{bits_take}
use Rattle.tables.proofs.Put.{put_zero, over_length}
use Rattle.tables.proofs.Packing.{unpacked_length, unpacked_bits, tape_long_lem, tape_bits}
use Rattle.construction.specs.Shares.{shares_of}
use Rattle.construction.specs.Codes.{encode}
use Rattle.construction.proofs.Codes.{encode_length, encode_bits}
use Rattle.secrecy.specs.Maps.{flipped, each_flip, input_flips}
use Rattle.secrecy.specs.Both.{flips_at}
use Rattle.secrecy.proofs.Inputs.{encode_flipped}
use Rattle.secrecy.proofs.FlipsAt.{flips_at_front}
use Rattle.map_inputs.specs.Flipping.{FlipReady, BeginReady, BegunSays}
use Rattle.map_inputs.proofs.Flipping.{each_length}

module _ {o k : ℕ} {xs ys s m a b : List ℕ} (B : BeginReady o k xs ys s m a b) where
  abbrev n : ℕ
  n = shares_of o

  abbrev front : List ℕ
  front = tape_of (2 * o * length xs) s

  abbrev E : List ℕ
  E = encode o xs front

  front_long : length front ≡ 2 * o * length xs
  front_long = tape_long_lem (2 * o * length xs) s B.tape

  E-long : length E ≡ n * length xs
  E-long = encode_length o xs front front_long

  pub encode_first : (o ≤ 15) × (2 * o * length xs ≤ 8 * length s) × (n * length xs ≤ length a) × Bits xs
  encode_first = (B.order, B.tape, B.one, B.first_bits_lem)

  -- the mapped tape is the tape
  module _ {m₁ : List ℕ} (copied : m₁ ≡ put_at 0 s m) where
    copied_is : m₁ ≡ over s m
    copied_is = copied ∙ put_zero s m

    pub inputs_ready : FlipReady (2 * o) k xs ys (unpacked m₁)
    inputs_ready =
        let long : length m₁ ≡ length m = ap length copied_is ∙ over_length s m B.room in
        record {
          from_1 = B.from_1;
          second = B.second;
          room = omega (arith, unpacked_length m₁, B.tape, B.room);
          few = omega (arith, B.few, B.to_n, B.order);
          first_bits_lem = B.first_bits_lem;
          second_bits_lem = B.second_bits_lem;
          bits = bits_take (2 * o * length xs) (unpacked m₁) (unpacked_bits m₁);
        }

  -- the second run begins as the first
  module _ {a₁ : List ℕ} {q c : ℕ} (encoded : a₁ ≡ over E a) (shares : q ≡ n) (due : c ≡ q * length xs) where
    all_shares_lem : c ≡ n * length xs
    all_shares_lem = due ∙ ap (λ (r : ℕ). r * length xs) shares

    taken : take c a₁ ≡ E
    taken = rw encoded (take_at E (drop (length E) a) c (E-long ∙ sym all_shares_lem))

    pub shares_fit : (c ≤ length a₁) × (length (take c a₁) ≤ length b)
    shares_fit =
        let long : length a₁ ≡ length a = ap length encoded ∙ over_length E a (omega (arith, E-long, B.one)) in
        (omega (arith, all_shares_lem, B.one), omega (arith, ap length taken, E-long, B.other))

    module _ {b₁ : List ℕ} (copied : b₁ ≡ put_at 0 (take c a₁) b) where
      copied_are : b₁ ≡ over E b
      copied_are = copied ∙ put_zero (take c a₁) b ∙ ap (λ (l : List ℕ). over l b) taken

      pub shares_ready : (k ≤ q) × FlipReady q k xs ys b₁
      shares_ready =
          let long : length b₁ ≡ length b = ap length copied_are ∙ over_length E b (omega (arith, E-long, B.other)) in
          let front_is : take (n * length xs) b₁ ≡ E = rw copied_are (take_at E (drop (length E) b) (n * length xs) E-long) in
          rw shares (
            B.to_n,
            record {
              from_1 = B.from_1;
              second = B.second;
              room = omega (arith, B.other);
              few = omega (arith, B.few, B.to_n, B.order);
              first_bits_lem = B.first_bits_lem;
              second_bits_lem = B.second_bits_lem;
              bits = rw front_is (encode_bits o xs front B.first_bits_lem (tape_bits (2 * o * length xs) s));
            },
          )

      second_is :
          {b₂ : List ℕ} → b₂ ≡ flips_at 0 (each_flip q k xs ys) b₁
          → b₂ ≡ over (encode o ys (flipped front (input_flips o k xs ys))) b
      second_is e =
          e
          ∙ ap (λ (r : ℕ). flips_at 0 (each_flip r k xs ys) b₁) shares
          ∙ ap (flips_at 0 (each_flip n k xs ys)) copied_are
          ∙ flips_at_front (each_flip n k xs ys) E b (each_length n k xs ys B.second ∙ sym E-long)
          ∙ ap (λ (l : List ℕ). over l b)
          (sym
          (encode_flipped o k xs ys front B.from_1 B.to_n B.second B.first_bits_lem B.second_bits_lem
          (tape_bits (2 * o * length xs) s)
          front_long))

      pub begun_says :
          {m₁ m₂ b₂ : List ℕ} → m₁ ≡ put_at 0 s m → unpacked m₂ ≡ flips_at 0 (input_flips o k xs ys) (unpacked m₁)
          → b₂ ≡ flips_at 0 (each_flip q k xs ys) b₁ → BegunSays o k xs ys s m m₂ a a₁ b b₂
      begun_says tape-copied flips second-flips =
          record {
            mapped = flips ∙ ap (λ (l : List ℕ). flips_at 0 (input_flips o k xs ys) (unpacked l)) (copied_is tape-copied);
            one = encoded;
            other = second_is second-flips;
          }

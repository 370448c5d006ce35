-- What holds of an encoding and of a decoding that nothing refuses.
-- Assumes nothing.
use mathlib.Core.Path.{◌≡◌, refl}
use mathlib.Core.Bool.{true, not}
use mathlib.Core.List.{List}
use Prim.Native.Nat.{ℕ, suc, ◌*◌, ◌/◌, ◌%◌, ◌≤◌}
use borrow.Author.Tests.{ltb-false, eqb-true, not-false}
use lib.Dec.{ltb, eqb}
use lib.ListN.{length}
use Rattle.tables.specs.Refusals.{passed, or_else, refused_if, bad_bit}
use Rattle.tables.specs.Inside.{Bits}
use Rattle.tables.specs.Packing.{bytes_for, spare_fault}
use Rattle.tables.proofs.Tests.{both_passed, not_refused}
use Rattle.tables.proofs.Bad.{bad_bits}
use Rattle.construction.specs.Shares.{shares_of}
use Rattle.construction.specs.Says.{order_fault, encode_fault, decode_fault}
use Rattle.construction.proofs.Orders.{order_passed, order_range}

pub record EncodePassed (o : ℕ) (xs ts : List ℕ) (room : ℕ) : Type 0 where
  pub order : (1 ≤ o) × (o ≤ 15)
  pub few : shares_of o * length xs ≤ 65535
  pub long : length ts ≡ bytes_for (2 * o * length xs)
  pub secrets : Bits xs
  pub fits : shares_of o * length xs ≤ room

pub encode_passed :
    (o : ℕ) (xs ts : List ℕ) (room : ℕ) → passed (encode_fault o xs ts room) ≡ true → EncodePassed o xs ts room
unfolding encode_fault
encode_passed o xs ts room h =
    let shares = shares_of o * length xs in
    let many = refused_if (ltb 65535 shares) 8 in
    let long = eqb (length ts) (bytes_for (2 * o * length xs)) in
    let unused = spare_fault (length xs) (2 * o * length xs) ts in
    let last = or_else (or_else (bad_bit 0 xs) unused) (refused_if (ltb room shares) 9) in
    let a = both_passed (order_fault o) (or_else many (or_else (refused_if (not long) 10) last)) h in
    let b = both_passed many (or_else (refused_if (not long) 10) last) a.1 in
    let d = both_passed (refused_if (not long) 10) last b.1 in
    let e = both_passed (or_else (bad_bit 0 xs) unused) (refused_if (ltb room shares) 9) d.1 in
    record {
      order = order_range o (order_passed o a.0);
      few = ltb-false 65535 shares (not_refused (ltb 65535 shares) 8 refl b.0);
      long = eqb-true (length ts) (bytes_for (2 * o * length xs)) (not-false long (not_refused (not long) 10 refl d.0));
      secrets = bad_bits 0 xs (both_passed (bad_bit 0 xs) unused e.0).0;
      fits = ltb-false room shares (not_refused (ltb room shares) 9 refl e.1);
    }

pub record DecodePassed (o : ℕ) (bs : List ℕ) (room : ℕ) : Type 0 where
  pub order : (1 ≤ o) × (o ≤ 15)
  pub few : length bs ≤ 65535
  pub bits : Bits bs
  pub fits : length bs / suc (2 * o) ≤ room

pub decode_passed :
    (o : ℕ) (bs : List ℕ) (room : ℕ) → passed (decode_fault o bs room) ≡ true → DecodePassed o bs room
unfolding decode_fault
decode_passed o bs room h =
    let count = length bs / suc (2 * o) in
    let many = refused_if (ltb 65535 (length bs)) 8 in
    let whole = eqb (length bs % suc (2 * o)) 0 in
    let last = or_else (bad_bit 0 bs) (refused_if (ltb room count) 9) in
    let a = both_passed (order_fault o) (or_else many (or_else (refused_if (not whole) 10) last)) h in
    let b = both_passed many (or_else (refused_if (not whole) 10) last) a.1 in
    let d = both_passed (refused_if (not whole) 10) last b.1 in
    let e = both_passed (bad_bit 0 bs) (refused_if (ltb room count) 9) d.1 in
    record {
      order = order_range o (order_passed o a.0);
      few = ltb-false 65535 (length bs) (not_refused (ltb 65535 (length bs)) 8 refl b.0);
      bits = bad_bits 0 bs e.0;
      fits = ltb-false room count (not_refused (ltb room count) 9 refl e.1);
    }

-- For contracts inside the library only: no promise of a call cites this. Gates are counted for three kinds at a time.
-- Assumes nothing.
use Rattle.std.specs.Prelude.{List, ℕ, get_or}
use Rattle.tables.specs.declared.Kind as DKind
use Rattle.tables.specs.declared.Kind.TheVariants as Named
use Rattle.tables.specs.Tables.{Gate, kind_byte, total}
use Rattle.tables.specs.Kinds.{kind_is}
use Rattle.tables.specs.Counted.{of_kind}
use Rattle.counts.specs.declared.ThreeKinds as DThreeKinds

-- the byte of kind number i of a list
abbrev pub byte_of : List DKind.Kind → ℕ → ℕ
byte_of ks i = kind_byte (kind_is (get_or ks i Named.Not))

-- the gates of each of three kinds
abbrev pub three_of : List DKind.Kind → List Gate → DThreeKinds.ThreeKinds
three_of ks gs = record {
  first = total (of_kind (byte_of ks 0)) gs;
  second = total (of_kind (byte_of ks 1)) gs;
  third = total (of_kind (byte_of ks 2)) gs;
}

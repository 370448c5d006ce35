-- The version of the calls as one number, 0.6.0, by which a program can see what it is linked with.
-- Assumes nothing.
use Rattle.std.specs.Prelude.{ℕ, ◌+◌, ◌*◌}

-- major, minor and patch as one number: a later version has a larger one, where minor and patch stay below 1,000
abbrev pub version_of : ℕ → ℕ → ℕ → ℕ
version_of major minor patch = major * 1000000 + minor * 1000 + patch

-- 0.6.0, which include/masks.h has as MASKS_VERSION
abbrev pub version : ℕ
version = version_of 0 6 0

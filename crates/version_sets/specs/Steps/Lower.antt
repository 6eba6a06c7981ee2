-- A means of proof: the lower of two versions by precedence, or the only one that is given.
use Rattle.std.specs.Prelude.{Bool, false, if◌then◌else◌, Option, Some, None}
use Rattle.std.specs.Ordering.{is_lt}
use Rattle.semver_texts.specs.Versions.{PlainVersion}
use Rattle.semver_texts.specs.Precedence.{precedence}

abbrev pub is_below : Option PlainVersion → PlainVersion → Bool
is_below None w = false
is_below (Some v) w = is_lt (precedence v w)

abbrev pub lower : Option PlainVersion → Option PlainVersion → Option PlainVersion
lower o None = o
lower o (Some w) = if is_below o w then o else Some w

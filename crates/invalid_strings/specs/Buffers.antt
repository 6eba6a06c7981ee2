-- A means of proof, cited in no public clause: what a buffer holds while a prefix is completed.
use Rattle.std.specs.Prelude.{◌≡◌, ◌++◌}
use Rattle.std.specs.Str.{IsUtf8}
use Rattle.semver_texts.specs.Texts.{Text}

-- the prefix, and any UTF-8 after it
pub record HoldsAfter (prefix bytes : Text) : Type 0 where
  pub more : Text
  pub utf8 : IsUtf8 more
  pub is : bytes ≡ prefix ++ more

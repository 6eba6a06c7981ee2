-- Whether some version of a kind is at or above another version.
use Rattle.std.specs.Prelude.{◌≡◌, ◌≢◌, Bool, true}
use Rattle.std.specs.declared.cmp.Ordering.TheVariants.{Less}
use Rattle.semver_texts.specs.Versions.{PlainVersion}
use Rattle.semver_texts.specs.Precedence.{precedence}

-- some version of a kind passes a test, and isn't below v by precedence
abbrev pub HasAtOrAbove : (PlainVersion → Type 0) → (PlainVersion → Bool) → PlainVersion → Type 0
HasAtOrAbove IsOfKind test v =
    (w : PlainVersion) × IsOfKind w × (test w ≡ true) × (precedence w v ≢ Less)

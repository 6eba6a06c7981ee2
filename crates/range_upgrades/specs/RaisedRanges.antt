-- A range whose last alternative is raised to a newer version.
use Rattle.std.specs.Prelude.{◌≡◌, ℕ, ◌≤◌, Bool, true, false, Option, Some, None, List, [], ◌∷◌}
use Rattle.std.specs.Prelude.{◌++◌, ◌⊎◌, length, slice_range}
use Rattle.std.specs.Str.{IsCharBoundary}
use Rattle.semver_texts.specs.Texts.{Text, is_empty}
use Rattle.semver_texts.specs.Versions.{PlainVersion}
use Rattle.semver_versions.specs.VersionRefs.{VersionRefValue, version_of}
use Rattle.version_sets.specs.declared.rules.PreReleases.TheVariants.{Included}
use Rattle.tool_ranges.specs.Dialects.{HasSetAs}
use Rattle.semver_ranges.specs.declared.dialect.Dialect.{Dialect}
use Rattle.tool_ranges.specs.Widening.{IsWidened}
use Rattle.tool_ranges.specs.declared.meaning.Rules.{Rules}
use Rattle.semver_ranges.specs.declared.operator.Operator.{Operator}
use Rattle.semver_ranges.specs.declared.operator.Operator.TheVariants.{Greater, GreaterOrEqual}
use Rattle.range_terms.specs.WrittenTerms.{WrittenTerm, WrittenVersion}
use Rattle.range_terms.specs.WrittenTexts.{version_text}
use Rattle.range_upgrades.specs.Alternatives.{HasBars, last_of}
use Rattle.range_upgrades.specs.RaisedVersions.{HasRaised, raised_version}
use Rattle.range_upgrades.specs.Upgrades.{HasVersionFrom, IsSatisfied}
use Rattle.range_upgrades.specs.declared.alternatives.Alternative.{Alternative}
use Rattle.range_upgrades.specs.declared.raised_versions.Form.{Form}
use Rattle.range_upgrades.specs.declared.raised_versions.Form.TheVariants.{AsWritten, InFull}

-- the part of a text between two offsets, which don't divide a character
pub record IsPart (t : Text) (start end : ℕ) (part : Text) : Type 0 where
  pub in_order : start ≤ end
  pub starts : IsCharBoundary t start
  pub ends : IsCharBoundary t end
  pub is : part ≡ slice_range t start end

-- whether the operator states only a lower bound
abbrev pub is_lower_bound : Operator → Bool
is_lower_bound Greater = true
is_lower_bound GreaterOrEqual = true
is_lower_bound _ = false

-- the version after the hyphen, if there is one, or else the only version
abbrev pub upper_or : WrittenVersion → Option WrittenVersion → WrittenVersion
upper_or version None = version
upper_or version (Some upper) = upper

-- the version of a term; of a hyphen range, the one after the hyphen
abbrev pub last_version : WrittenTerm → WrittenVersion
last_version x = upper_or x.version x.upper

-- the term alone is a range without a version at or above this one, by precedence
abbrev pub IsBelow : Dialect → Text → PlainVersion → Type 0
IsBelow d term v = HasSetAs d term
    × ¬ (HasVersionFrom (record { dialect = d; pre_releases = Included }) term v)

-- the version of a term is replaced: the term is in the last alternative, states an upper bound,
-- and has no version at or above the newer one
pub record IsToRaise (d : Dialect) (t : Text) (v : VersionRefValue) (last : Alternative)
    (x : WrittenTerm) : Type 0 where
  pub in_last : x.range ≡ last.range
  pub bounds : is_lower_bound x.operator ≡ false
  pub term : Text
  pub alone : IsPart t x.span.start x.span.end term
  pub below : IsBelow d term (version_of v).plain

-- what replaces the version of a term
abbrev pub raised_word : Dialect → Form → VersionRefValue → WrittenTerm → Text
raised_word d form v x = version_text (raised_version d form x.operator (last_version x) v)

-- the text from an offset up to the end of the last alternative, in which each version that has to
-- be raised is replaced
abbrev pub IsRaisedFrom : Dialect → Form → Text → VersionRefValue → Alternative → ℕ
    → List WrittenTerm → Text → Type 0
IsRaisedFrom d form t v last at [] s = IsPart t at last.end s
IsRaisedFrom d form t v last at (x ∷ xs) s =
    (¬ (IsToRaise d t v last x) × IsRaisedFrom d form t v last at xs s)
    ⊎ ((kept : Text) × (rest : Text) × IsToRaise d t v last x
    × HasRaised x.operator (last_version x) v
    × IsPart t at (last_version x).span.start kept
    × IsRaisedFrom d form t v last (last_version x).span.end xs rest
    × (s ≡ kept ++ (raised_word d form v x ++ rest)))

-- the last alternative, in which each version that has to be raised is replaced
abbrev pub IsRaised : Dialect → Form → Text → VersionRefValue → Alternative → List WrittenTerm
    → Text → Type 0
IsRaised d form t v last terms s = IsRaisedFrom d form t v last last.start terms s

-- the text is the last alternative, in which each version that has to be raised is replaced, and no
-- other text is
abbrev pub IsOnlyRaised : Dialect → Form → Text → VersionRefValue → Alternative
    → List WrittenTerm → Text → Type 0
IsOnlyRaised d form t v last terms s = IsRaised d form t v last terms s
    × ((other : Text) → IsRaised d form t v last terms other → other ≡ s)

-- the range with another text for its last alternative
pub record IsReplaced (t : Text) (last : Alternative) (raised s : Text) : Type 0 where
  pub before : Text
  pub after : Text
  pub up_to : IsPart t 0 last.start before
  pub from : IsPart t last.end (length t) after
  pub whole : s ≡ before ++ (raised ++ after)

-- the range with one more alternative after its last term. Before that is what is between the last
-- two alternatives
pub record IsExtended (t : Text) (last : Alternative) (raised s : Text) : Type 0 where
  pub end : ℕ
  pub before : Text
  pub between : Text
  pub after : Text
  pub others : last.before ≡ Some end
  pub up_to : IsPart t 0 last.end before
  pub bars : IsPart t end last.start between
  pub from : IsPart t last.end (length t) after
  pub whole : s ≡ before ++ (between ++ (raised ++ after))

module _ (d : Dialect) (form : Form) (t : Text) (v : VersionRefValue) (terms : List WrittenTerm)
    (s : Text) where
  -- the string is the range of these terms with its last alternative raised in place
  pub record IsInPlace : Type 0 where
    pub last : Alternative
    pub raised : Text
    pub is_last : last_of terms ≡ Some last
    pub raises : IsRaised d form t v last terms raised
    pub replaces : IsReplaced t last raised s

  -- the string is the range of these terms, and then its last alternative, raised
  pub record IsOneMore : Type 0 where
    pub last : Alternative
    pub raised : Text
    pub is_last : last_of terms ≡ Some last
    pub raises : IsRaised d form t v last terms raised
    pub extends : IsExtended t last raised s

-- the range has `||`, and isn't widened if its last alternative is raised in place
pub record NeedsOneMore (m : Rules) (form : Form) (t : Text) (v : VersionRefValue)
    (terms : List WrittenTerm) : Type 0 where
  pub bars : HasBars t
  pub replaced : Text
  pub in_place : IsInPlace m.dialect form t v terms replaced
  pub satisfied : IsSatisfied m replaced (version_of v)
  pub narrows : ¬ (IsWidened m.dialect t replaced)

-- the string is the range of these terms, raised to a newer version, which it contains: the last
-- alternative is raised in place, or, if the range has `||` and isn't widened then, added
abbrev pub IsRaisedRange : Rules → Form → Text → VersionRefValue → List WrittenTerm → Text
    → Type 0
IsRaisedRange m form t v terms s =
    (IsInPlace m.dialect form t v terms s × IsSatisfied m s (version_of v)
    × (HasBars t → IsWidened m.dialect t s))
    ⊎ (IsOneMore m.dialect form t v terms s × NeedsOneMore m form t v terms
    × IsSatisfied m s (version_of v) × IsWidened m.dialect t s)

-- the string is the range of these terms, raised to a newer version: each raised version has as
-- many components as before; but if no range contains the newer version then, and it is a
-- pre-release, then three numbers are written where they mean the same
abbrev pub IsUpgraded : Rules → Text → VersionRefValue → List WrittenTerm → Text → Type 0
IsUpgraded m t v terms s =
    IsRaisedRange m AsWritten t v terms s
    ⊎ ((is_empty (version_of v).plain.pre ≡ false)
    × ((other : Text) → ¬ (IsRaisedRange m AsWritten t v terms other))
    × IsRaisedRange m InFull t v terms s)

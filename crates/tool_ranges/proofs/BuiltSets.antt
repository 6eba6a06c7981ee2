-- The versions of a set that is being built, at the end of a range and at the end of the text.
use Rattle.std.proofs.Common.{◌≡◌, Bool, true, false, not, ◌&&◌, ◌||◌, if◌then◌else◌, refl, sym}
use Rattle.semver_texts.specs.Texts.{is_empty}
use Rattle.semver_texts.specs.Versions.{PlainVersion}
use Rattle.version_sets.specs.declared.rules.PreReleases.{PreReleases}
use Rattle.version_sets.specs.declared.rules.PreReleases.TheVariants.{ByDialect, Included, Excluded}
use Rattle.semver_ranges.specs.declared.dialect.Dialect.{Dialect}
use Rattle.semver_ranges.specs.declared.dialect.Dialect.TheVariants.{Cargo, Npm, CrateCargo, CrateNpm}
use Rattle.tool_ranges.specs.declared.matching.Progress.{Progress}
use Rattle.tool_ranges.specs.Steps.Matching.{counts, is_met, takes_releases}

-- adding the releases of a range and its pre-releases that count, in either order, adds every
-- version that satisfies the range and counts in it
kinds : (e o h c : Bool) → (e ≡ true → c ≡ true) → ((o || (e && h)) || (not e && (h && c))) ≡ (o || (h && c))
kinds e true h c counted = refl
kinds true false true c counted = sym (counted refl)
kinds true false false c counted = refl
kinds false false h c counted = refl

kinds_last : (e o h c : Bool) → (e ≡ true → c ≡ true) → ((o || (not e && (h && c))) || (e && h)) ≡ (o || (h && c))
kinds_last e true h c counted = refl
kinds_last true false true c counted = sym (counted refl)
kinds_last true false false c counted = refl
kinds_last false false true c counted = or_false c where
  or_false : (b : Bool) → (b || false) ≡ b
  or_false true = refl
  or_false false = refl
kinds_last false false false c counted = refl

release_counts : (all : Bool) (v : PlainVersion) (s : Bool) → is_empty v.pre ≡ true → (counts all v || s) ≡ true
release_counts true v s e = refl
release_counts false v s e = rw e refl

pub both_kinds : (all : Bool) (v : PlainVersion) (o h s : Bool)
    → ((o || (is_empty v.pre && h)) || (not (is_empty v.pre) && (h && (counts all v || s)))) ≡ (o || (h && (counts all v || s)))
both_kinds all v o h s = kinds (is_empty v.pre) o h (counts all v || s) (release_counts all v s)

pub last_kinds : (all : Bool) (v : PlainVersion) (o h s : Bool)
    → ((o || (not (is_empty v.pre) && (h && (counts all v || s)))) || (is_empty v.pre && h)) ≡ (o || (h && (counts all v || s)))
last_kinds all v o h s = kinds_last (is_empty v.pre) o h (counts all v || s) (release_counts all v s)

-- in npm's dialect, unless every pre-release within the bounds counts: if some range matches
-- everything, exactly the releases satisfy the text
and_itself : (b : Bool) → (b && b) ≡ b
and_itself true = refl
and_itself false = refl

pub every_is_met : (d : Dialect) (rule : PreReleases) (v : PlainVersion) (p : Progress) → (p.matched_all && takes_releases d rule) ≡ true
    → is_met d rule v p ≡ is_empty v.pre
every_is_met Npm ByDialect v p e = by p.matched_all e where
  by : (b : Bool) → (b && true) ≡ true → (if b then is_empty v.pre else p.met) ≡ is_empty v.pre
  by true e = refl
  by false e = cc
every_is_met Npm Excluded v p e = by p.matched_all e where
  by : (b : Bool) → (b && true) ≡ true → (is_empty v.pre && (if b then is_empty v.pre else p.met)) ≡ is_empty v.pre
  by true e = and_itself (is_empty v.pre)
  by false e = cc
every_is_met Npm Included v p e = absurd (no p.matched_all e) where
  no : (b : Bool) → (b && false) ≡ true → ⊥
  no true e = cc
  no false e = cc
every_is_met Cargo rule v p e = absurd (no p.matched_all e) where
  no : (b : Bool) → (b && false) ≡ true → ⊥
  no true e = cc
  no false e = cc
every_is_met CrateCargo rule v p e = absurd (no p.matched_all e) where
  no : (b : Bool) → (b && false) ≡ true → ⊥
  no true e = cc
  no false e = cc
every_is_met CrateNpm rule v p e = absurd (no p.matched_all e) where
  no : (b : Bool) → (b && false) ≡ true → ⊥
  no true e = cc
  no false e = cc

-- otherwise, a version satisfies the text if it satisfies some range; with `Excluded`, it has to be
-- a release, too
abbrev pub met_of : PreReleases → PlainVersion → Progress → Bool
met_of Excluded v p = is_empty v.pre && p.met
met_of rule v p = p.met

pub met_is_met : (d : Dialect) (rule : PreReleases) (v : PlainVersion) (p : Progress) → (p.matched_all && takes_releases d rule) ≡ false
    → is_met d rule v p ≡ met_of rule v p
met_is_met Npm ByDialect v p e = by p.matched_all e where
  by : (b : Bool) → (b && true) ≡ false → (if b then is_empty v.pre else p.met) ≡ p.met
  by true e = cc
  by false e = refl
met_is_met Npm Excluded v p e = by p.matched_all e where
  by : (b : Bool) → (b && true) ≡ false → (is_empty v.pre && (if b then is_empty v.pre else p.met)) ≡ (is_empty v.pre && p.met)
  by true e = cc
  by false e = refl
met_is_met Npm Included v p e = refl
met_is_met Cargo ByDialect v p e = refl
met_is_met Cargo Included v p e = refl
met_is_met Cargo Excluded v p e = refl
met_is_met CrateCargo ByDialect v p e = refl
met_is_met CrateCargo Included v p e = refl
met_is_met CrateCargo Excluded v p e = refl
met_is_met CrateNpm ByDialect v p e = refl
met_is_met CrateNpm Included v p e = refl
met_is_met CrateNpm Excluded v p e = refl

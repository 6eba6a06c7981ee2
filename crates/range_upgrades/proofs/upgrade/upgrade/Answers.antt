use Rattle.std.proofs.Common.{◌∙◌, Err, Global, None, Ok, Some, ap, refl, string_bytes, subst, sym}
use Rattle.semver_texts.specs.ToolVersions.{IsVersionTextIn}
use Rattle.semver_versions.specs.VersionRefs.{IsVersionRefIn, version_of}
use Rattle.semver_ranges.specs.DialectTable.{grammar_of}
use Rattle.range_upgrades.specs.Upgrades.{HasVersionFrom}
use Rattle.range_upgrades.specs.declared.upgrade.UpgradeError.TheVariants.{CannotUpgrade, InvalidRange, OutOfMemory}
use Rattle.range_upgrades.proofs.Results.{Clauses, IsValid, clauses, err_is, invalid_version, read_fits, unread, valid_range}
use Rattle.range_upgrades.proofs.Satisfied.{range_has, true_not_false}
use Rattle.range_upgrades.proofs.upgrade.upgrade.Goals as goal

pub returns-in_default : goal.returns-in_default
returns-in_default c =
    let k = invalid_version string_bytes c.args.meaning c.args.range.now c.args.version.now
    (subst (λ g. ¬ (IsVersionTextIn g c.args.version.now)) c.grammar.ensures.grammar (c.in_default.ensures.none.0 refl)) in
    record {
      invalid_version = k.invalid_version;
      not_a_range = k.not_a_range;
      too_large = k.too_large;
      range_memory = k.range_memory;
      accepted = k.accepted;
      contains = k.contains;
      none = k.none;
      above = k.above;
      loses_none = k.loses_none;
      again = k.again;
      style = k.style;
      cannot_upgrade = k.cannot_upgrade;
    }

pub returns-in-Err : goal.returns-in-Err
returns-in-Err c =
    let o = c.in-Some.version in
    let read : IsVersionRefIn (grammar_of c.args.meaning.dialect) c.args.version.now o =
    subst (λ g. IsVersionRefIn g c.args.version.now o) c.grammar.ensures.grammar ((c.in-Some.ensures.borrowed o).0 refl) in
    let k = clauses string_bytes c.args.meaning c.args.range.now c.args.version.now o read (Err (InvalidRange c.in-Err.error))
    (unread (string_bytes {Z = Global}) c.args.meaning c.args.range.now c.args.version.now o c.in-Err.error c.in-Err.ensures.refusals
    (λ e. c.in-Err.ensures.no_memory (ap Err e))) in
    record {
      invalid_version = k.invalid_version;
      not_a_range = k.not_a_range;
      too_large = k.too_large;
      range_memory = k.range_memory;
      accepted = k.accepted;
      contains = k.contains;
      none = k.none;
      above = k.above;
      loses_none = k.loses_none;
      again = k.again;
      style = k.style;
      cannot_upgrade = k.cannot_upgrade;
    }

pub returns-then-has : goal.returns-then-has
returns-then-has c =
    let o = c.in-Some.version in
    let read : IsVersionRefIn (grammar_of c.args.meaning.dialect) c.args.version.now o =
    subst (λ g. IsVersionRefIn g c.args.version.now o) c.grammar.ensures.grammar ((c.in-Some.ensures.borrowed o).0 refl) in
    let valid : IsValid c.args.meaning c.args.range.now = valid_range c.args.meaning c.args.range.now c.in-Ok.has c.in-Ok.ensures.refusals in
    let has = range_has c.one_tree.ensures.same_tree c.args.meaning c.args.range.now o (c.args.version.now, read) valid.is_range c.in-Ok.has
    c.in-Ok.ensures.has in
    let k = clauses string_bytes c.args.meaning c.args.range.now c.args.version.now o read (Ok None)
    (valid, has.0 c.if-has.true) in
    record {
      invalid_version = k.invalid_version;
      not_a_range = k.not_a_range;
      too_large = k.too_large;
      range_memory = k.range_memory;
      accepted = k.accepted;
      contains = k.contains;
      none = k.none;
      above = k.above;
      loses_none = k.loses_none;
      again = k.again;
      style = k.style;
      cannot_upgrade = k.cannot_upgrade;
    }

pub returns-in_err-new : goal.returns-in_err-new
returns-in_err-new c =
    let o = c.in-Some.version in
    let read : IsVersionRefIn (grammar_of c.args.meaning.dialect) c.args.version.now o =
    subst (λ g. IsVersionRefIn g c.args.version.now o) c.grammar.ensures.grammar ((c.in-Some.ensures.borrowed o).0 refl) in
    let valid : IsValid c.args.meaning c.args.range.now = valid_range c.args.meaning c.args.range.now c.in-Ok.has c.in-Ok.ensures.refusals in
    let k = subst (Clauses string_bytes c.args.meaning c.args.range.now c.args.version.now) (sym (err_is c.from_residual.result OutOfMemory c.from_residual.ensures.1))
    (clauses string_bytes c.args.meaning c.args.range.now c.args.version.now o read (Err OutOfMemory) valid) in
    record {
      invalid_version = k.invalid_version;
      not_a_range = k.not_a_range;
      too_large = k.too_large;
      range_memory = k.range_memory;
      accepted = k.accepted;
      contains = k.contains;
      none = k.none;
      above = k.above;
      loses_none = k.loses_none;
      again = k.again;
      style = k.style;
      cannot_upgrade = k.cannot_upgrade;
    }

pub returns-in_default-new : goal.returns-in_default-new
returns-in_default-new c =
    let o = c.in-Some.version in
    let read : IsVersionRefIn (grammar_of c.args.meaning.dialect) c.args.version.now o =
    subst (λ g. IsVersionRefIn g c.args.version.now o) c.grammar.ensures.grammar ((c.in-Some.ensures.borrowed o).0 refl) in
    let valid : IsValid c.args.meaning c.args.range.now = valid_range c.args.meaning c.args.range.now c.in-Ok.has c.in-Ok.ensures.refusals in
    let has = range_has c.one_tree.ensures.same_tree c.args.meaning c.args.range.now o (c.args.version.now, read) valid.is_range c.in-Ok.has
    c.in-Ok.ensures.has in
    let below : ¬ (HasVersionFrom c.args.meaning c.args.range.now (version_of o).plain) =
    λ some. true_not_false (sym (has.1 some) ∙ c.if-has.false) in
    let k = clauses string_bytes c.args.meaning c.args.range.now c.args.version.now o read (Err CannotUpgrade)
    (valid, below, c.in_ok-new.ensures.none c.in_default-new.is) in
    record {
      invalid_version = k.invalid_version;
      not_a_range = k.not_a_range;
      too_large = k.too_large;
      range_memory = k.range_memory;
      accepted = k.accepted;
      contains = k.contains;
      none = k.none;
      above = k.above;
      loses_none = k.loses_none;
      again = k.again;
      style = k.style;
      cannot_upgrade = k.cannot_upgrade;
    }

pub returns : goal.returns
returns c =
    let o = c.in-Some.version in
    let read : IsVersionRefIn (grammar_of c.args.meaning.dialect) c.args.version.now o =
    subst (λ g. IsVersionRefIn g c.args.version.now o) c.grammar.ensures.grammar ((c.in-Some.ensures.borrowed o).0 refl) in
    let valid : IsValid c.args.meaning c.args.range.now = valid_range c.args.meaning c.args.range.now c.in-Ok.has c.in-Ok.ensures.refusals in
    let has = range_has c.one_tree.ensures.same_tree c.args.meaning c.args.range.now o (c.args.version.now, read) valid.is_range c.in-Ok.has
    c.in-Ok.ensures.has in
    let below : ¬ (HasVersionFrom c.args.meaning c.args.range.now (version_of o).plain) =
    λ some. true_not_false (sym (has.1 some) ∙ c.if-has.false) in
    let k = clauses string_bytes c.args.meaning c.args.range.now c.args.version.now o read (Ok (Some c.in-Some-new.new)) (
      valid,
      below,
      read_fits (grammar_of c.args.meaning.dialect) c.args.version.now o read,
      record {
        satisfied = rw c.in-Some-new.is at c.in_ok-new.ensures.satisfied;
        loses_none = λ bars. rw c.in-Some-new.is at (c.in_ok-new.ensures.loses_none bars);
        style = rw c.in-Some-new.is at c.in_ok-new.ensures.style;
      },
    ) in
    record {
      invalid_version = k.invalid_version;
      not_a_range = k.not_a_range;
      too_large = k.too_large;
      range_memory = k.range_memory;
      accepted = k.accepted;
      contains = k.contains;
      none = k.none;
      above = k.above;
      loses_none = k.loses_none;
      again = k.again;
      style = k.style;
      cannot_upgrade = k.cannot_upgrade;
    }

pub raised_in_some_form-requires-clause-range : goal.raised_in_some_form-requires-clause-range
raised_in_some_form-requires-clause-range c = c.in-Ok.ensures.refusals.accepted

pub raised_in_some_form-requires-clause-version : goal.raised_in_some_form-requires-clause-version
raised_in_some_form-requires-clause-version c = (
  c.args.version.now,
  subst (λ g. IsVersionRefIn g c.args.version.now c.in-Some.version) c.grammar.ensures.grammar ((c.in-Some.ensures.borrowed c.in-Some.version).0 refl),
)

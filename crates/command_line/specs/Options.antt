-- What the options for the dialect and for pre-releases mean.
use Rattle.std.specs.Prelude.{◌≡◌, ◌⊎◌, ◌++◌, ◌<◌, ◌==◌, ⊤, Bool, true, false, if◌then◌else◌}
use Rattle.std.specs.Prelude.{codes, length}
use Rattle.std.specs.List.{before_first, position_or_len}
use Rattle.std.specs.Prelude.{Option, Some, None, Result, Ok, Err, MatchResult, string_bytes}
use Rattle.std.specs.declared.io.ErrorKind.{ErrorKind}
use Rattle.std.specs.declared.io.ErrorKind.TheVariants as kind
use Rattle.semver_parser.specs.Texts.{Text}
use Rattle.version_sets.specs.declared.PreReleases.{PreReleases}
use Rattle.version_sets.specs.declared.PreReleases.TheVariants.{Excluded, ByDialect, Included}
use Rattle.semver_ranges.specs.DialectTable.{name_of}
use Rattle.semver_ranges.specs.declared.dialect.Dialect.{Dialect}
use Rattle.semver_ranges.specs.declared.dialect.Dialect.TheVariants.{Cargo, Npm}
use Rattle.tool_ranges.specs.declared.meaning.Rules.{Rules}
use Rattle.command_line.specs.declared.error.ArgumentError.{ArgumentError}
use Rattle.command_line.specs.declared.error.ArgumentError.TheVariants.{NoDialect}
use Rattle.command_line.specs.declared.error.ArgumentError.TheVariants.{GivenTwice, Contradiction}
use Rattle.command_line.specs.declared.error.ArgumentError.TheVariants.{UnknownDialect, OutOfMemory}
use Rattle.command_line.specs.declared.error.ArgumentError.TheVariants.{NeedlessValue, NotUtf8}
use Rattle.command_line.specs.declared.error.ArgumentError.TheVariants.{UnknownOption}

-- the options that were taken: the dialect and the rule for pre-releases, each with the option that
-- requested it, and whether the next argument is the name of the dialect
pub record OptionsValue : Type 0 where
  pub dialect : Option (Dialect × Text)
  pub rule : Option (PreReleases × Text)
  pub wants_name : Bool

abbrev pub no_options : OptionsValue
no_options = record { dialect = None; rule = None; wants_name = false }

-- the error of arguments that can't be read. All but one kind mean that one of them isn't UTF-8
abbrev pub unreadable : ErrorKind → ArgumentError
unreadable kind.OutOfMemory = OutOfMemory
unreadable _ = NotUtf8

-- the option that requests a dialect by its name
abbrev pub dialect_option_of : Dialect → Text
dialect_option_of dialect = codes "--dialect " ++ name_of dialect

-- the argument requests the dialect that the next argument names
abbrev pub WantsName : Text → Type 0
WantsName argument = (argument ≡ codes "--dialect") ⊎ (argument ≡ codes "--as")

-- the argument is the option for a rule, or its short form; the default rule has no option
abbrev pub IsOptionOf : PreReleases → Text → Text → Type 0
IsOptionOf rule option argument =
    ((rule ≡ Excluded) × (option ≡ codes "--releases-only")
    × ((argument ≡ codes "--releases-only") ⊎ (argument ≡ codes "--releases")))
    ⊎ ((rule ≡ Included) × (option ≡ codes "--include-prerelease")
    × ((argument ≡ codes "--include-prerelease") ⊎ (argument ≡ codes "--pre")))

-- the dialect, which is Cargo's without an option
abbrev pub dialect_or_cargo : Option (Dialect × Text) → Dialect
dialect_or_cargo None = Cargo
dialect_or_cargo (Some r) = r.0

-- the rule, which is the default without an option
abbrev pub rule_or_default : Option (PreReleases × Text) → PreReleases
rule_or_default None = ByDialect
rule_or_default (Some r) = r.0

abbrev pub meant : OptionsValue → Result Rules ArgumentError
meant o = if o.wants_name then Err NoDialect else Ok (record {
  dialect = dialect_or_cargo o.dialect;
  pre_releases = rule_or_default o.rule;
})

-- the name that an argument gives: the argument itself if a name is expected, otherwise what
-- follows `--dialect=` or `--as=` in it
abbrev pub Names : OptionsValue → Text → Text → Type 0
Names o argument name = ((o.wants_name ≡ true) × (argument ≡ name))
    ⊎ ((o.wants_name ≡ false)
    × ((argument ≡ codes "--dialect=" ++ name) ⊎ (argument ≡ codes "--as=" ++ name)))

-- some dialect has the name
abbrev pub IsDialectName : Text → Type 0
IsDialectName name = (dialect : Dialect) × (name ≡ name_of dialect)

-- the dialect that an argument requests, and the option that requests it
abbrev pub AsksFor : OptionsValue → Text → Dialect → Text → Type 0
AsksFor o argument dialect option =
    (Names o argument (name_of dialect) × (option ≡ dialect_option_of dialect))
    ⊎ ((o.wants_name ≡ false) × (argument ≡ codes "--npm") × (dialect ≡ Npm)
    × (option ≡ codes "--npm"))

-- the argument is one of these options
abbrev pub IsOption : Text → Type 0
IsOption argument = WantsName argument ⊎ (argument ≡ codes "--npm")
    ⊎ ((rule : PreReleases) × (option : Text) × IsOptionOf rule option argument)
    ⊎ ((name : Text) × (argument ≡ codes "--dialect=" ++ name))
    ⊎ ((name : Text) × (argument ≡ codes "--as=" ++ name))

-- the error is that the option was given twice
abbrev pub TellsTwice : Text → ArgumentError → Type 0
TellsTwice option (GivenTwice told) = told.now ≡ option
TellsTwice option _ = ⊥

-- the error is that the option contradicts the earlier one
abbrev pub TellsContradiction : Text → Text → ArgumentError → Type 0
TellsContradiction option earlier (Contradiction told other) =
    (told.now ≡ option) × (other.now ≡ earlier)
TellsContradiction option earlier _ = ⊥

-- what is before the first `=` of an option
abbrev pub name_in : Text → Text
name_in option = before_first (λ b. b == 61) option

-- the option has a value after `=`
abbrev pub HasValue : Text → Type 0
HasValue option = position_or_len (λ b. b == 61) option < length option

-- the error of an option that isn't taken: it doesn't accept its value, or it is unknown
abbrev pub TellsNotTaken : (has_needless_value : Bool) → Text → ArgumentError → Type 0
TellsNotTaken true option (NeedlessValue told) = string_bytes told.text ≡ option
TellsNotTaken false option (UnknownOption told) = string_bytes told.text ≡ option
TellsNotTaken _ option _ = ⊥

-- the error is that no dialect has the name, or it is `OutOfMemory`, which is returned if memory
-- runs out
abbrev pub TellsUnknown : Text → ArgumentError → Type 0
TellsUnknown name (UnknownDialect told) = string_bytes told.text ≡ name
TellsUnknown name OutOfMemory = ⊤
TellsUnknown name _ = ⊥

-- the result is an error for which `Is` is true
abbrev pub Fails : {A : Type 0} → (ArgumentError → Type 0) → Result A ArgumentError → Type 0
Fails Is result = MatchResult result (λ _. ⊥) Is

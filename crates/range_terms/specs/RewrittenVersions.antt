-- The version of a term may be replaced by what `with_version` makes of it, and the string stays a
-- range.
use Rattle.std.specs.Prelude.{◌≡◌, ◌≤◌, Some, IsTrue, length}
use Rattle.semver_texts.specs.NpmLimits.{max_length}
use Rattle.semver_texts.specs.Texts.{Text}
use Rattle.semver_versions.specs.VersionRefs.{VersionRefValue, IsVersionRefIn}
use Rattle.tool_ranges.specs.Dialects.{IsTextAs}
use Rattle.semver_ranges.specs.DialectTable.{grammar_of}
use Rattle.semver_ranges.specs.declared.dialect.Dialect.{Dialect}
use Rattle.semver_ranges.specs.declared.dialect.Dialect.TheVariants as dialect
use Rattle.range_terms.specs.Replacing.{replaced}
use Rattle.range_terms.specs.Rewriting.{is_number, with_version}
use Rattle.range_terms.specs.WrittenTerms.{WrittenTerm, WrittenVersion}
use Rattle.range_terms.specs.WrittenTexts.{version_text}

-- the printed text of a version of a term with the numbers of another version
abbrev pub text_with : WrittenVersion → VersionRefValue → Text
text_with written v = version_text (with_version written v)

-- what else a dialect requires of a version of a term and of the text that replaces it: in Cargo's
-- dialect, the version states a number, and in npm's, the text isn't too long
abbrev pub MayBecome : Dialect → WrittenVersion → Text → Type 0
MayBecome dialect.Cargo written text = IsTrue (is_number (Some written.major))
MayBecome dialect.Npm written text = length text ≤ max_length
MayBecome dialect.CrateCargo written text = Unit {0}
MayBecome dialect.CrateNpm written text = Unit {0}

-- each version of a term of a text may be given the numbers of any version of the dialect
pub record IsRewritable (d : Dialect) (t : Text) (x : WrittenTerm) : Type 0 where
  pub version : (v : VersionRefValue) (read : Text) → IsVersionRefIn (grammar_of d) read v
      → MayBecome d x.version (text_with x.version v)
      → IsTextAs d (replaced t x.version.span (text_with x.version v))
  pub upper : (written : WrittenVersion) → x.upper ≡ Some written → (v : VersionRefValue)
      (read : Text) → IsVersionRefIn (grammar_of d) read v
      → MayBecome d written (text_with written v)
      → IsTextAs d (replaced t written.span (text_with written v))

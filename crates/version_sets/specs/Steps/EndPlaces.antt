-- A means of proof: the versions at which spans of pre-releases begin and end.
use Rattle.std.specs.Prelude.{◌||◌, map}
use Rattle.semver_texts.specs.Digits.{plain_by}
use Rattle.semver_texts.specs.Texts.{cut_at_dots, is_empty}
use Rattle.semver_texts.specs.Versions.{PlainVersion}
use Rattle.semver_ranges.specs.Partials.{kept}
use Rattle.version_sets.specs.Steps.SpanViews.{successor}
use Rattle.version_sets.specs.declared.pre_release_end.PreReleaseEnd.{PreReleaseEnd}

-- the version at an end of a span, with its identifiers as they are kept. If it has none, it gets
-- the number 0, so that it is a pre-release
abbrev pub kept_end : PreReleaseEnd → PlainVersion
kept_end l = record {
  major = l.numbers.major;
  minor = l.numbers.minor;
  patch = l.numbers.patch;
  pre = successor (map kept (cut_at_dots l.pre.now))
      (l.successor || is_empty (map kept (cut_at_dots l.pre.now)));
}

-- the version at an end of a span, with its identifiers of digits as they are read
abbrev pub end_place : PreReleaseEnd → PlainVersion
end_place l = plain_by l.digits (kept_end l)

-- A means of proof, which no public clause cites: the completions of prefixes of range texts that
-- the search for the offset of an error tries.
use Rattle.std.specs.Prelude.{codes, List, [], ◌∷◌}
use Rattle.semver_texts.specs.Texts.{Text}

-- nothing, a wildcard, a letter, a bar, a space and a wildcard, or the number 0
abbrev pub range_completions : List Text
range_completions = codes "" ∷ codes "*" ∷ codes "a" ∷ codes "|" ∷ codes " *" ∷ codes "0" ∷ []

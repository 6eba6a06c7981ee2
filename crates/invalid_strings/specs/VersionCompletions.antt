-- What completes a prefix to a version.
use Rattle.std.specs.Prelude.{codes, map, List, [], ◌∷◌, ◌++◌}
use Rattle.semver_texts.specs.Texts.{Text}

abbrev pub version_completions : List Text
version_completions = codes "" ∷ codes "a" ∷ codes "0" ∷ codes ".0" ∷ codes "0.0" ∷ codes ".0.0"
    ∷ codes "0.0.0" ∷ []

-- the last bytes of a white space character, for a prefix that ends within one
abbrev pub white_completions : List Text
white_completions = (0xA0 ∷ []) ∷ (0x9A ∷ 0x80 ∷ []) ∷ (0x80 ∷ 0x80 ∷ []) ∷ (0x81 ∷ 0x9F ∷ [])
    ∷ (0xBB ∷ 0xBF ∷ []) ∷ (0x80 ∷ []) ∷ (0x9F ∷ []) ∷ (0xBF ∷ []) ∷ []

-- what completes a prefix that may end within a white space character: the completions of a
-- version, and the last bytes of such a character, with or without `0.0.0` after them
abbrev pub byte_completions : List Text
byte_completions = version_completions ++ white_completions
    ++ map (λ rest. rest ++ codes "0.0.0") white_completions

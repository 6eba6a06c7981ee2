-- Cloned identifiers have the same values as the originals.
use Rattle.std.proofs.Common.{rules, ◌≡◌, List, [], ◌∷◌, map, refl, ap₂}
use Rattle.std.specs.List.{AllZip}
use Rattle.semver_texts.specs.declared.version.Identifier.{Identifier}
use Rattle.semver_texts.specs.declared.version.Identifier.TheVariants.{Numeric, AlphaNumeric}
use Rattle.semver_texts.specs.VersionViews.{identifier_value}
use Rattle.semver_texts.specs.contracts.version.IdentifierClone.TheImpl.{is_clone-value}

one : (x y : Identifier) → is_clone-value.it x y → identifier_value y ≡ identifier_value x
one (Numeric m) (Numeric n) h = search rules
one (Numeric m) (AlphaNumeric t) h = absurd h
one (AlphaNumeric s) (Numeric n) h = absurd h
one (AlphaNumeric s) (AlphaNumeric t) h = search rules

pub cloned_values : (xs ys : List Identifier) → AllZip is_clone-value.it xs ys → map identifier_value ys ≡ map identifier_value xs
cloned_values [] [] h = refl
cloned_values [] (y ∷ ys) h = absurd h
cloned_values (x ∷ xs) [] h = absurd h
cloned_values (x ∷ xs) (y ∷ ys) h = ap₂ (λ v vs. v ∷ vs) (one x y h.0) (cloned_values xs ys h.1)

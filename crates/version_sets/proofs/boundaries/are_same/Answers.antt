use Rattle.std.proofs.Common.{rules, ◌∙◌, ◌≡◌, Bool, ◌&&◌, List, [], ◌∷◌, map, length, refl, ap, arith, is_eq}
use Rattle.std.proofs.lemmas.Iterator.{YieldsList-from_slice, YieldsList-from_zip}
use Rattle.std.proofs.lemmas.Iterator.Search.{all_from_yields_List}
use Rattle.std.specs.Cmp.Lexicographic.{pointwise}
use Rattle.std.specs.List.{list_all, zip}
use Rattle.semver_texts.specs.Precedence.{precedence}
use Rattle.version_sets.proofs.boundaries.are_same.Goals as goal

-- two lists of the same length agree at each index if and only if all their pairs agree
all_pairs : {X Y : Type 0} (f : X → Y) (E : Y → Y → Bool) (xs ys : List X) → length xs ≡ length ys
    → list_all (λ p. E (f p.0) (f p.1)) (zip xs ys) ≡ pointwise E (map f xs) (map f ys)
all_pairs f E [] [] e = refl
all_pairs f E [] (y ∷ ys) e = absurd (omega arith)
all_pairs f E (x ∷ xs) [] e = absurd (omega arith)
all_pairs f E (x ∷ xs) (y ∷ ys) e = ap (λ b. E (f x) (f y) && b) (all_pairs f E xs ys (omega arith))

pub returns-then-boundaries-others : goal.returns-then-boundaries-others
returns-then-boundaries-others g c =
    let place = g.T.Boundary.place in
    let xs = c.args.boundaries.now in
    let ys = c.args.others.now in
    all_from_yields_List (λ p. is_eq (precedence (place p.0) (place p.1))) c.all.new.self _ _ c.all.ensures.ran
    (YieldsList-from_zip (YieldsList-from_slice xs cc) (YieldsList-from_slice ys cc)) (λ x r q k. search rules)
    ∙ all_pairs place (λ v w. is_eq (precedence v w)) xs ys c.if-boundaries-others.true

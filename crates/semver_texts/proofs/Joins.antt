-- Lemmas for loops that write the items of a list one after the other.
use Rattle.std.proofs.Common.{◌≡◌, ℕ, ◌+◌, ◌<◌, ◌≤◌, List, [], ◌∷◌, ◌++◌, length, get_or, take, eqb, false, refl, sym, ap, ◌∙◌, take_all}
use Rattle.std.proofs.Common.{append_assoc, append-nil, codes}
use Rattle.std.specs.Prelude.{flat_map, map}
use Rattle.std.specs.List.{join_with_byte}
use Rattle.std.proofs.lemmas.List.{take_more, flat_map_more}
use Rattle.semver_texts.specs.Texts.{Text, joined, marked}

-- the text of the first `i` items, followed by that of item `i`, is the text of the first `i + 1`
pub flat_map_step : {X : Type 0} (f : X → Text) (xs : List X) (i : ℕ) (x : X) → i < length xs → x ≡ get_or xs i x
    → flat_map f (take i xs) ++ f x ≡ flat_map f (take (i + 1) xs)
flat_map_step f xs i x within is =
    flat_map_more f [] (take i xs) x ∙ ap (flat_map f) (ap (λ y. take i xs ++ y ∷ []) is ∙ sym (take_more xs i x within))

-- the first item, followed by each other one after the separator, is the joined text
joined_first : {X : Type 0} (f : X → Text) (separator : Text) (x : X) (xs : List X)
    → f x ++ flat_map (λ y. separator ++ f y) xs ≡ joined separator (map f (x ∷ xs))
joined_first f separator x [] = append-nil (f x)
joined_first f separator x (y ∷ ys) =
    ap (λ t. f x ++ t) (append_assoc separator (f y) (flat_map (λ z. separator ++ f z) ys)
    ∙ ap (λ t. separator ++ t) (joined_first f separator y ys))
    ∙ sym (append_assoc (f x) separator (joined separator (map f (y ∷ ys))))

-- at the end of the loop, when `i` has reached the end of `rest`, the joined text is written
pub joined_all : {X : Type 0} (f : X → Text) (separator : Text) (xs : List X) (first : X) (rest : List X) (i : ℕ)
    → xs ≡ first ∷ rest → length rest ≤ i → f first ++ flat_map (λ y. separator ++ f y) (take i rest) ≡ joined separator (map f xs)
joined_all f separator xs first rest i is past =
    ap (λ l. f first ++ flat_map (λ y. separator ++ f y) l) (take_all i rest past) ∙ joined_first f separator first rest
    ∙ ap (λ l. joined separator (map f l)) (sym is)

-- joining with a text of one byte is joining with that byte
pub joined_by_byte : (b : ℕ) (ts : List Text) → joined (b ∷ []) ts ≡ join_with_byte b ts
joined_by_byte b [] = refl
joined_by_byte b (t ∷ []) = refl
joined_by_byte b (t ∷ next ∷ others) =
    append_assoc t (b ∷ []) (joined (b ∷ []) (next ∷ others)) ∙ ap (λ l. t ++ (b ∷ l)) (joined_by_byte b (next ∷ others))

-- if there are items, the marked text is the mark followed by the items joined by dots
pub marked_some : {X : Type 0} (text : X → Text) (mark : Text) (xs : List X) → eqb (length xs) 0 ≡ false
    → mark ++ joined (codes ".") (map text xs) ≡ marked mark (map text xs)
marked_some text mark [] h = cc
marked_some text mark (x ∷ xs) h = ap (λ t. mark ++ t) (joined_by_byte 46 (map text (x ∷ xs)))

pub map_view : {X Y Z : Type 0} (f : Y → Z) (g : X → Y) (xs : List X) → map (λ x. f (g x)) xs ≡ map f (map g xs)
map_view f g [] = refl
map_view f g (x ∷ xs) = ap (λ l. f (g x) ∷ l) (map_view f g xs)

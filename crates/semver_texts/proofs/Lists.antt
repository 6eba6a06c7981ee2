-- Lists, and properties that hold for each of their elements.
use Rattle.std.proofs.Common.{◌≡◌, ℕ, ◌<◌, Bool, true, false, List, [], ◌∷◌, ◌++◌, length, take, drop}
use Rattle.std.proofs.Common.{refl, one-add}
use Rattle.std.specs.Prelude.{IsTrue, map, slice_index}
use Rattle.std.specs.List.{AllByRecursion, AllZip, list_all, prefix_len, join_with_byte}
use Rattle.std.proofs.lemmas.Bool.{and_parts}
use Rattle.std.specs.Str.{IsAscii}
use Rattle.std.proofs.lemmas.Str.Ascii.{IsAscii-cons, IsAscii-nil}
use Rattle.semver_texts.specs.Texts.{marked}

pub tails : {x y : ℕ} {xs ys : List ℕ} → x ∷ xs ≡ y ∷ ys → xs ≡ ys
tails e = cc

pub all_more : {X : Type 0} {P Q : X → Type 0} → ((x : X) → P x → Q x) → (xs : List X) → AllByRecursion P xs → AllByRecursion Q xs
all_more more [] all = tt
all_more more (x ∷ xs) all = (more x all.0, all_more more xs all.1)

pub all_apart : {X : Type 0} (P : X → Type 0) (xs ys : List X) → AllByRecursion P (xs ++ ys) → AllByRecursion P xs × AllByRecursion P ys
all_apart P [] ys all = (tt, all)
all_apart P (x ∷ xs) ys all = let both = all_apart P xs ys all.1 in ((all.0, both.0), both.1)

-- if each element of `ys` is related to one of `xs`, and this implies `P`, all elements of `ys`
-- have `P`
pub all_zipped : {A B : Type 0} {R : A → B → Type 0} {P : B → Type 0} → ((a : A) (b : B) → R a b → P b) → (xs : List A) (ys : List B)
    → AllZip R xs ys → AllByRecursion P ys
all_zipped each [] [] all = tt
all_zipped each [] (y ∷ ys) all = absurd all
all_zipped each (x ∷ xs) [] all = absurd all
all_zipped each (x ∷ xs) (y ∷ ys) all = (each x y all.0, all_zipped each xs ys all.1)

-- a proof by cases of a Boolean
pub by_test : {A : Type 0} (b : Bool) → (b ≡ true → A) → (b ≡ false → A) → A
by_test true f g = f refl
by_test false f g = g refl

pub never : {b : Bool} → b ≡ true → b ≡ false → ⊥
never t f = cc

-- if related elements have equal images under `f` and `g`, the images of related lists are equal
pub zip_same : {X Y Z : Type 0} {R : X → Y → Type 0} (f : X → Z) (g : Y → Z) → ((x : X) (y : Y) → R x y → f x ≡ g y)
    → (xs : List X) (ys : List Y) → AllZip R xs ys → map f xs ≡ map g ys
zip_same f g each [] [] zip = refl
zip_same f g each [] (y ∷ ys) zip = absurd zip
zip_same f g each (x ∷ xs) [] zip = absurd zip
zip_same f g each (x ∷ xs) (y ∷ ys) zip = λ i. each x y zip.0 i ∷ zip_same f g each xs ys zip.1 i

pub zip_more : {A B : Type 0} {R S : A → B → Type 0} → ((a : A) (b : B) → R a b → S a b) → (xs : List A) (ys : List B)
    → AllZip R xs ys → AllZip S xs ys
zip_more each [] [] zip = tt
zip_more each [] (y ∷ ys) zip = absurd zip
zip_more each (x ∷ xs) [] zip = absurd zip
zip_more each (x ∷ xs) (y ∷ ys) zip = (each x y zip.0, zip_more each xs ys zip.1)

pub zip_is : {A B : Type 0} {R : A → B → Type 0} (f : A → B) → ((a : A) (b : B) → R a b → b ≡ f a) → (xs : List A) (ys : List B)
    → AllZip R xs ys → ys ≡ map f xs
zip_is f each [] [] zip = refl
zip_is f each [] (y ∷ ys) zip = absurd zip
zip_is f each (x ∷ xs) [] zip = absurd zip
zip_is f each (x ∷ xs) (y ∷ ys) zip = λ i. each x y zip.0 i ∷ zip_is f each xs ys zip.1 i

-- ---- bytes

pub each_passes : {X : Type 0} (p : X → Bool) (t : List X) → list_all p t ≡ true → AllByRecursion (λ x. IsTrue (p x)) t
each_passes p [] e = tt
each_passes p (b ∷ t) e = let both = and_parts (p b) _ e in (both.0, each_passes p t both.1)

-- each byte passes the test
abbrev pub Passes : (ℕ → Bool) → List ℕ → Type 0
Passes p bs = AllByRecursion (λ b. IsTrue (p b)) bs

pub ascii_from : (p : ℕ → Bool) → ((b : ℕ) → p b ≡ true → b < 128) → (bs : List ℕ) → Passes p bs → IsAscii bs
ascii_from p small [] all = IsAscii-nil
ascii_from p small (b ∷ bs) all = IsAscii-cons b bs (small b all.0) (ascii_from p small bs all.1)

pub passes_append : (p : ℕ → Bool) (xs ys : List ℕ) → Passes p xs → Passes p ys → Passes p (xs ++ ys)
passes_append p [] ys a b = b
passes_append p (x ∷ xs) ys a b = (a.0, passes_append p xs ys a.1 b)

pub passes_apart : (p : ℕ → Bool) (xs ys : List ℕ) → Passes p (xs ++ ys) → Passes p xs × Passes p ys
passes_apart p = all_apart (λ b. IsTrue (p b))

-- every byte of the longest prefix that passes a test passes it
pub all_of_prefix : (p : ℕ → Bool) (xs : List ℕ) → Passes p (take (prefix_len p xs) xs)
all_of_prefix p [] = tt
all_of_prefix p (x ∷ xs) = by_test (p x) (λ h. rw (h, one-add) (h, all_of_prefix p xs)) (λ h. rw h tt)

-- the byte after that prefix fails the test; after the end of the list, the byte is taken as 0
pub prefix_stops : (p : ℕ → Bool) (xs : List ℕ) → p 0 ≡ false → p (slice_index (drop (prefix_len p xs) xs) 0) ≡ false
prefix_stops p [] past = past
prefix_stops p (x ∷ xs) past = by_test (p x) (λ h. rw (h, one-add) (prefix_stops p xs past)) (λ h. rw h h)

-- if every byte of `xs` passes and the next one fails, `xs` is the longest prefix that passes
pub prefix_is : (p : ℕ → Bool) (xs ys : List ℕ) → Passes p xs → p 0 ≡ false → p (slice_index ys 0) ≡ false
    → prefix_len p (xs ++ ys) ≡ length xs
prefix_is p [] [] all past stop = refl
prefix_is p [] (y ∷ ys) all past stop = rw stop
prefix_is p (x ∷ xs) ys all past stop = rw (all.0, prefix_is p xs ys all.1 past stop, one-add)

-- if the texts, the byte between them and the mark pass a test, so do the joined and the marked
-- text
pub joined_pass : (p : ℕ → Bool) (between : ℕ) → p between ≡ true → (xs : List (List ℕ)) → AllByRecursion (Passes p) xs
    → Passes p (join_with_byte between xs)
joined_pass p between here [] all = tt
joined_pass p between here (x ∷ []) all = all.0
joined_pass p between here (x ∷ y ∷ xs) all =
    passes_append p x (between ∷ join_with_byte between (y ∷ xs)) all.0 (here, joined_pass p between here (y ∷ xs) all.1)

pub marked_passes : (p : ℕ → Bool) → p 46 ≡ true → (mark : ℕ) → p mark ≡ true → (xs : List (List ℕ)) → AllByRecursion (Passes p) xs
    → Passes p (marked (mark ∷ []) xs)
marked_passes p dot mark here [] all = tt
marked_passes p dot mark here (x ∷ xs) all = (here, joined_pass p 46 dot (x ∷ xs) all)

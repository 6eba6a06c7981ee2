-- Two borrowed versions that are equal in their order have the same parts, so their hashes are the
-- same: a means of proof, for `==` and `Hash`.
use Rattle.std.specs.Prelude.{◌≡◌, ◌++◌, true, IsTrue}
use Rattle.std.specs.Cmp.Lexicographic.{slice_cmp}
use Rattle.std.specs.FinMap.{nat_cmp-IsAntisymmetric, slice_cmp-IsAntisymmetric}
use Rattle.std.specs.Hash as fed
use Rattle.std.specs.Ordering.{eq_by_cmp, is_eq, nat_cmp}
use Rattle.std.specs.declared.cmp.Ordering.{Ordering}
use Rattle.std.specs.declared.cmp.Ordering.TheVariants.{Less, Equal, Greater}
use Rattle.std.proofs.Common.{ap, refl}
use Rattle.semver_texts.specs.Precedence.{precedence}
use Rattle.semver_texts.specs.Steps.PrecedenceLaws.{precedence-same, then_first, then_second}
use Rattle.semver_versions.specs.VersionOrder.{HaveSameParts, hashed_parts, order, semver_of}
use Rattle.semver_versions.specs.VersionRefs.{VersionRefValue}

pub to_parts : (a b : VersionRefValue) → order a b ≡ Equal → HaveSameParts a b
to_parts a b e =
    let plain : semver_of a ≡ semver_of b = precedence-same _ _
    (then_first (precedence (semver_of a) (semver_of b)) _ e) in
    let rest = then_second (precedence (semver_of a) (semver_of b)) _ e in
    record {
      major = ap (λ v. v.major) plain;
      minor = ap (λ v. v.minor) plain;
      patch = ap (λ v. v.patch) plain;
      pre = slice_cmp-IsAntisymmetric nat_cmp-IsAntisymmetric a.pre b.pre
          (then_first (slice_cmp nat_cmp a.pre b.pre) _ rest);
      build = slice_cmp-IsAntisymmetric nat_cmp-IsAntisymmetric a.build b.build
          (then_second (slice_cmp nat_cmp a.pre b.pre) _ rest);
    }

pub is_tie : (o : Ordering) → is_eq o ≡ true → o ≡ Equal
is_tie Less e = cc
is_tie Equal e = refl
is_tie Greater e = cc

pub same_parts_hash_alike : (a b : VersionRefValue) → IsTrue (eq_by_cmp order a b)
    → hashed_parts a ≡ hashed_parts b
same_parts_hash_alike a b e =
    let same = to_parts a b (is_tie (order a b) e) in
    λ i. fed.u64 (same.major i) ++ (fed.u64 (same.minor i) ++ (fed.u64 (same.patch i)
    ++ (fed.slice fed.u8 (same.pre i) ++ fed.slice fed.u8 (same.build i))))

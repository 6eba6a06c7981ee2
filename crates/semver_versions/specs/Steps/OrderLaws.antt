-- The order of borrowed versions is total, and two of them are equal in it if and only if they have
-- the same parts: a means of proof, for `==` and `Ord`.
use Rattle.std.specs.Cmp.{IsEquivalence, IsTotalOrder, on_total, then_total}
use Rattle.std.specs.Cmp.Lexicographic.{nat_list_cmp_total}
use Rattle.std.specs.Ordering.{eq_by_cmp}
use Rattle.std.proofs.lemmas.Cmp.{eq_by_cmp_equiv}
use Rattle.semver_texts.specs.Steps.PrecedenceLaws.{precedence_total}
use Rattle.semver_versions.specs.VersionOrder.{order, semver_of}
use Rattle.semver_versions.specs.VersionRefs.{VersionRefValue}

pub order_total : IsTotalOrder order
order_total =
    then_total (on_total semver_of precedence_total)
    (then_total (on_total (λ (o : VersionRefValue). o.pre) nat_list_cmp_total)
    (on_total (λ (o : VersionRefValue). o.build) nat_list_cmp_total))

pub same_equiv : IsEquivalence (eq_by_cmp order)
same_equiv = eq_by_cmp_equiv order_total

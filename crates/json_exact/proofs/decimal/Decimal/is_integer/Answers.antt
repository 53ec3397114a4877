use Rattle.std.proofs.Common.{ℕ, ◌-◌, subst, drop}
use Rattle.std.specs.Prelude.{◌↔◌, IsTrue}
use Rattle.json_model.specs.Decimal.{IsWhole}
use Rattle.json_exact.specs.Exact.{exactly}
use Rattle.json_exact.proofs.WholeLaws.{AreZeros, whole_digits, limits}
use Rattle.json_exact.proofs.decimal.Decimal.is_integer.Goals as goal

pub returns-clause-whole : goal.returns-clause-whole
returns-clause-whole c =
    let zeros : AreZeros (drop (c.self.inside.top - 4096) c.self.inside.groups) ↔ IsWhole (exactly c.args.self.now) =
    whole_digits c.self.inside _ c.self.invariant c.self.view_is in
    let is : IsTrue c.ends_in_zeros.result ↔ AreZeros (drop (c.self.inside.top - 4096) c.self.inside.groups) =
    subst (λ (n : ℕ). IsTrue c.ends_in_zeros.result ↔ AreZeros (drop n c.self.inside.groups)) c.saturating_sub.ensures c.ends_in_zeros.ensures in
    (λ t. zeros.0 (is.0 t), λ w. is.1 (zeros.1 w))

pub returns-clause-limits : goal.returns-clause-limits
returns-clause-limits c = limits c.self.inside _ c.self.invariant c.self.view_is

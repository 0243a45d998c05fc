use Rattle.std.proofs.Common.{◌↔◌, IsTrue, List, ℕ, subst}
use Rattle.files_core.specs.Vacant.{IsZeroOrOf}
use Rattle.files_core.proofs.vacant.is_front_of.Goals as goal

pub returns : goal.returns
returns c =
    let each = subst (λ (made : List ℕ). IsTrue c.is_zero_or_of.result ↔ IsZeroOrOf made c.args.bytes.now) c.empty_file.ensures c.is_zero_or_of.ensures in
    (λ holds. record { short = c.requires; each = each.0 holds }, λ vacant. each.1 vacant.each)

use Rattle.std.proofs.Common.{◌∙◌, inl, inr, refl, codes, decimal, ◌++◌, subst, sym}
use Rattle.std.proofs.lemmas.Result.{on_ok_weaker}
use Rattle.text_core.proofs.Known.{OnOk_Appends_then}
use Rattle.float_core.specs.Floats.{IsNanWord}
use Rattle.float_core.proofs.Bits.{nan_word}
use Rattle.float_core.proofs.float.FloatType.write_text.Goals as goal

pub returns-then-bits-quiet_nan : goal.returns-then-bits-quiet_nan
returns-then-bits-quiet_nan g c =
    on_ok_weaker c.write_all.result (λ appends. (codes "NaN", appends, inr (inl (subst (IsNanWord c.args.self (codes "NaN")) (sym (c.if-bits-quiet_nan.true ∙ c.quiet_nan.ensures)) (nan_word c.args.self))))) c.write_all.ensures.bytes

pub returns : goal.returns
returns g c =
    on_ok_weaker c.write_number-2.result (λ appends. (codes "NaN:" ++ decimal c.args.bits, appends, inr (inr (refl, c.if-not-is_nan.ensures.0 refl))))
    (OnOk_Appends_then c.write_number-2.result _ _ _ _ _ c.in_ok-write_all.ensures.bytes c.write_number-2.ensures)

-- A state is known by its code.
use Rattle.std.proofs.Common.{◌≡◌, ℕ, zero, suc, refl, sym, ap, ◌∙◌}
use Rattle.ck_base.specs.declared.states.State.{State}
use Rattle.ck_base.specs.declared.states.State.TheVariants.{TI, TN, TS, TD, TL, TP, HB, HO, HL, HE, FF, XL, NL, NP, OX}
use Rattle.ck_base.specs.declared.states.State.TheVariants.{ON}
use Rattle.ck_base.specs.Act.{state_code}

state_of_code : ℕ → State
state_of_code zero = TI
state_of_code (suc zero) = TN
state_of_code (suc (suc zero)) = TS
state_of_code (suc (suc (suc zero))) = TD
state_of_code (suc (suc (suc (suc zero)))) = TL
state_of_code (suc (suc (suc (suc (suc zero))))) = TP
state_of_code (suc (suc (suc (suc (suc (suc zero)))))) = HB
state_of_code (suc (suc (suc (suc (suc (suc (suc zero))))))) = HO
state_of_code (suc (suc (suc (suc (suc (suc (suc (suc zero)))))))) = HL
state_of_code (suc (suc (suc (suc (suc (suc (suc (suc (suc zero))))))))) = HE
state_of_code (suc (suc (suc (suc (suc (suc (suc (suc (suc (suc zero)))))))))) = FF
state_of_code (suc (suc (suc (suc (suc (suc (suc (suc (suc (suc (suc zero))))))))))) = XL
state_of_code (suc (suc (suc (suc (suc (suc (suc (suc (suc (suc (suc (suc zero)))))))))))) = NL
state_of_code (suc (suc (suc (suc (suc (suc (suc (suc (suc (suc (suc (suc (suc zero))))))))))))) = NP
state_of_code (suc (suc (suc (suc (suc (suc (suc (suc (suc (suc (suc (suc (suc (suc zero)))))))))))))) = OX
state_of_code _ = ON

state-code : (s : State) → state_of_code (state_code s) ≡ s
unfolding state_of_code
state-code TI = refl
state-code TN = refl
state-code TS = refl
state-code TD = refl
state-code TL = refl
state-code TP = refl
state-code HB = refl
state-code HO = refl
state-code HL = refl
state-code HE = refl
state-code FF = refl
state-code XL = refl
state-code NL = refl
state-code NP = refl
state-code OX = refl
state-code ON = refl

pub state_code-one : (s t : State) → state_code s ≡ state_code t → s ≡ t
state_code-one s t e = sym (state-code s) ∙ (ap state_of_code e ∙ state-code t)

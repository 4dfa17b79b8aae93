-- The margins of the worked figures, and that the expected numbers follow from the rules.
use Rattle.std.proofs.Common.{[], ◌∷◌, pos, neg_ℤ, refl, inl, inr, ⊎_elim}
use Rattle.equations.specs.Sums.{total}
use Rattle.equations.specs.Margins.{MarginOf}
use Rattle.equations.specs.Capacities.{line_available}
use Rattle.borders.specs.Day.{figure_in}
use Rattle.borders.specs.Limits.{capped_by, lifted_by}
use Rattle.borders.specs.Border.{overrun}
use Rattle.equations.proofs.Reaching.{last_reached}
use Rattle.figures.specs.Worked.{GivenBy, rules, expected}

pub margin_1 : MarginOf (pos 10 ∷ pos 20 ∷ pos 30 ∷ []) (pos 30)
unfolding total
margin_1 = last_reached (pos 3) _ _ (pos 30) (record { le = tt }) (inr (record { le = tt })) (⊎_elim (λ h. h.le) (λ h. h.le))

pub margin_2 : MarginOf (pos 1 ∷ pos 2 ∷ []) (pos 2)
unfolding total
margin_2 = last_reached (pos 2) _ _ (pos 2) (record { le = tt }) (inr (record { le = tt })) (⊎_elim (λ h. h.le) (λ h. h.le))

pub margin_3 : MarginOf (pos 1 ∷ pos 1 ∷ pos 1 ∷ neg_ℤ (pos 1) ∷ []) (pos 2)
unfolding total
margin_3 = last_reached (pos 4) _ _ (pos 2) (record { le = tt }) (inr (record { le = tt })) (⊎_elim (λ h. h.le) (λ h. h.le))

pub margin_4 : MarginOf (neg_ℤ (pos 5) ∷ neg_ℤ (pos 5) ∷ []) (neg_ℤ (pos 5))
unfolding total
margin_4 = last_reached (pos 2) _ _ (neg_ℤ (pos 5)) (record { le = tt }) (inl (record { le = tt })) (⊎_elim (λ h. h.le) (λ h. h.le))

pub figures_follow : GivenBy rules expected
unfolding total line_available overrun figure_in capped_by lifted_by
figures_follow = (margin_1, (margin_2, (margin_3, (margin_4, (refl, (refl, (refl, (refl, (refl, (refl, (refl, (refl, (refl, (refl, (refl, (refl, (refl, (refl, tt))))))))))))))))))

-- What a stage keeps of the lines before it.
use Rattle.std.proofs.Common.{◌≡◌, Bool, true, false, ◌||◌, List, [], ◌∷◌, Some, None, sym, refl, ap, ◌∙◌}
use Rattle.std.proofs.lemmas.Bool.{cond-true, cond-false}
use Rattle.script.specs.declared.stage.Stage.{Stage}
use Rattle.script.specs.declared.verb.Part.{Part}
use Rattle.script.specs.declared.verb.Part.TheVariants.{New, Sink, Book, Hold, Call}
use Rattle.script.specs.Stages.{is_sink, is_book, is_hold, is_call, late, any, since, seen, stage_after, late_at, grown}

exchange : (a b c d : Bool) → ((a || b) || (c || d)) ≡ ((a || c) || (b || d))
exchange true b c d = refl
exchange false true true d = refl
exchange false true false d = refl
exchange false false c d = refl

-- some line passes one of two tests
any_or : (f g : Part → Bool) (ps : List Part) → any (λ p. f p || g p) ps ≡ (any f ps || any g ps)
any_or f g [] = refl
any_or f g (p ∷ ps) = ap (λ r. (f p || g p) || r) (any_or f g ps) ∙ exchange (f p) (g p) (any f ps) (any g ps)

never : (ps : List Part) → any (λ p. false) ps ≡ false
never [] = refl
never (p ∷ ps) = never ps

late-seen : (past : List Part) (p : Part) → late_at (seen past) p ≡ any (late p) past
late-seen past New = sym (never past)
late-seen past Sink = sym (any_or is_call (λ p. is_sink p || is_hold p) past ∙ ap (λ r. any is_call past || r) (any_or is_sink is_hold past))
late-seen past Book = sym (any_or is_call is_book past)
late-seen past Hold = sym (any_or is_call is_hold past)
late-seen past Call = sym (never past)

grown-seen : (past : List Part) (p : Part) → grown (seen past) p ≡ seen (since past p)
grown-seen past New = refl
grown-seen past Sink = refl
grown-seen past Book = refl
grown-seen past Hold = refl
grown-seen past Call = refl

-- a line comes too late by the stage, and so by the lines before it
pub after-late : (s : Stage) (p : Part) → late_at s p ≡ true → (past : List Part) → s ≡ seen past → None ≡ stage_after past p
after-late s p t past e = sym (cond-true _ _ _ (sym (late-seen past p) ∙ ap (λ s. late_at s p) (sym e) ∙ t))

-- the stage grows as the lines before it do
pub after-grown : (s r : Stage) (p : Part) → late_at s p ≡ false → r ≡ grown s p → (past : List Part) → s ≡ seen past → Some r ≡ stage_after past p
after-grown s r p f g past e =
    ap Some (g ∙ ap (λ s. grown s p) e ∙ grown-seen past p) ∙ sym (cond-false _ _ _ (sym (late-seen past p) ∙ ap (λ s. late_at s p) (sym e) ∙ f))

-- What is answered to a question for an expression's size, as the rules have it.
use Rattle.std.proofs.Common.{◌≡◌, ℕ, ◌-◌, List, [], ◌∷◌, length, Some, None, Ok, Err, Option, Result, refl, ap, ◌∙◌}
use Rattle.common.specs.declared.encoding.Encoding.{Encoding}
use Rattle.common.specs.declared.error.Error.{Error}
use Rattle.common.specs.declared.error.Error.TheVariants.{NoUnit}
use Rattle.common.specs.declared.fixup.DebugInfoFixup.{DebugInfoFixup}
use Rattle.rules.specs.Results.{and_then}
use Rattle.rules.specs.Scope.{Scope, in_frame}
use Rattle.rules.specs.Sizes.{size_tree}
use Rattle.rules.specs.Tree.{Tree}
use Rattle.writer.specs.Meaning.{Sink}
use Rattle.unit.specs.Offsets.{unit_scope}
use Rattle.unit.specs.declared.UnitOffsets.{UnitOffsets}
use Rattle.expression.specs.Sealed.{size_at}
use Rattle.claim.specs.Section.{State, unit_at}
use Rattle.claim.specs.Calls.{Call, ask_size, ask_frame_size, Event, refused, sized, on_tree, on_value, answer, event, after}
use Rattle.claim.specs.Claim.{counted}
use Rattle.section_tables.specs.View.{last_of}
use Rattle.section_tables.proofs.Steps.{section_of, last_known, some_begun, Follows, by_event}

-- what a question for a size comes to
abbrev asked : Encoding → Scope → Option Tree → Event
asked e scope x = on_tree x (λ t. on_value (size_tree e scope t) sized)

asked_answer : (e : Encoding) (scope : Scope) (x : Option Tree) → counted (size_at e scope x) ≡ answer (asked e scope x)
asked_answer e scope None = refl
asked_answer e scope (Some t) = go (size_tree e scope t)
  where
    go : (r : Result ℕ Error) → counted r ≡ answer (on_value r sized)
    go (Ok n) = refl
    go (Err n) = refl

asked_after : (m : State) (e : Encoding) (scope : Scope) (x : Option Tree) → m ≡ after m (asked e scope x)
unfolding after
asked_after m e scope None = refl
asked_after m e scope (Some t) = go (size_tree e scope t)
  where
    go : (r : Result ℕ Error) → m ≡ after m (on_value r sized)
    go (Ok n) = refl
    go (Err n) = refl

asked_follows : (m : State) (c : Call) (e : Encoding) (scope : Scope) (x : Option Tree) (r : Result ℕ Error) → event m c ≡ asked e scope x
    → r ≡ size_at e scope x → Follows m c (counted r) m
asked_follows m c e scope x r ev h = by_event (asked e scope x) ev (ap counted h ∙ asked_answer e scope x) (asked_after m e scope x)

pub frame_size_follows : (m : State) (x : Option Tree) (e : Encoding) (r : Result ℕ Error) → r ≡ size_at e in_frame x → Follows m (ask_frame_size x e) (counted r) m
unfolding event
frame_size_follows m x e r h = asked_follows m (ask_frame_size x e) e in_frame x r refl h

pub size_follows : (k : Sink) (us : List UnitOffsets) (ps : List DebugInfoFixup) (x : Option Tree) (r : Result ℕ Error)
    → r ≡ and_then (last_of us) (λ u. size_at u.encoding (unit_scope u) x) → Follows (section_of k us ps) (ask_size x) (counted r) (section_of k us ps)
unfolding event after
size_follows k [] ps x r h = by_event (refused NoUnit) refl (ap counted h) refl
size_follows k (v ∷ vs) ps x r h =
    let u : UnitOffsets = unit_at (v ∷ vs) (length (v ∷ vs) - 1) in
    asked_follows (section_of k (v ∷ vs) ps) (ask_size x) u.encoding (unit_scope u) x r (rw (some_begun v vs) refl)
    (h ∙ ap (λ o. and_then o (λ u. size_at u.encoding (unit_scope u) x)) (last_known v vs))

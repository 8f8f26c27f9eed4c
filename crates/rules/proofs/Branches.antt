-- Every branch of an accepted expression leads where it should.
use Rattle.std.proofs.Common.{◌≡◌, ℕ, ◌+◌, Bool, true, List, [], ◌∷◌, ◌++◌, length, ℤ, pos, ◌+ℤ◌, Some, None, Option, sym, refl, ap, ◌∙◌, subst, arith}
use Rattle.dwarf.specs.Bytes.{bytes_of}
use Rattle.dwarf.specs.References.{shown}
use Rattle.dwarf.specs.Tokens.{Tokens}
use Rattle.rules.specs.Branches.{Mark, first, jump, inner, marks, Jump, Inner, firsts, jumps, inners, places, targets, signed_at, Lead, Leads, Nested}
use Rattle.rules.specs.Claims.{BranchesLead}
use Rattle.rules.specs.Encode.{encode_tree, starts}
use Rattle.rules.specs.Operands.{in_two_bytes}
use Rattle.rules.specs.Sizes.{size_tree}
use Rattle.rules.specs.Tree.{Tree, end, plain, nest}
use Rattle.rules.proofs.Displacements.{Stands, AllShown, marks-shown}
use Rattle.rules.proofs.Results.{first_step}
use Rattle.rules.proofs.Targets.{Aim, Inside, tree_landed}

module _ (big : Bool) (numbers : ℕ → ℕ) (bs : List ℕ) (q : ℕ) where
  -- the displacements and the nested runs among what the bytes show
  abbrev Told : List Jump → Type 0
  Told [] = Unit {0}
  Told (j ∷ js) = (in_two_bytes j.by ≡ true → signed_at big bs (q + j.place) ≡ j.by) × Told js

  abbrev Held : List Inner → Type 0
  Held [] = Unit {0}
  Held (k ∷ ks) = Stands big numbers bs (q + k.place) k.run × Held ks

  told : (ms : List Mark) → AllShown big numbers bs q ms → Told (jumps ms)
  told [] s = tt
  told (first p ∷ ms) s = told ms s.1
  told (jump p z ∷ ms) s = (s.0, told ms s.1)
  told (inner p a ∷ ms) s = told ms s.1

  held : (ms : List Mark) → AllShown big numbers bs q ms → Held (inners ms)
  held [] s = tt
  held (first p ∷ ms) s = held ms s.1
  held (jump p z ∷ ms) s = held ms s.1
  held (inner p a ∷ ms) s = (s.0, held ms s.1)

  -- displacements that lead somewhere, and bytes that tell them
  led : (ps : List ℕ) (js : List Jump) (ks : List (Option ℕ)) → Aim ps js ks → Told js → Lead big bs q ps js ks
  led ps [] [] a t = tt
  led ps [] (k ∷ ks) a t = a
  led ps (j ∷ js) [] a t = a
  led ps (j ∷ js) (None ∷ ks) a t = a
  led ps (j ∷ js) (Some k ∷ ks) a t =
      (a.0, ap (λ (z : ℤ). z +ℤ pos (j.place + 2)) (t.0 a.2) ∙ a.1, led ps js ks a.3 t.1)

module _ (big : Bool) (numbers : ℕ → ℕ) (bs : List ℕ) where
  -- what a run that stands in bytes shows
  run_shown : (q : ℕ) (a : Tokens) → Stands big numbers bs q a → AllShown big numbers bs q (marks 0 a)
  run_shown q a s =
      let zero : q ≡ q + 0 = omega arith in
      marks-shown big numbers bs q 0 a (subst (λ (k : ℕ). Stands big numbers bs k a) zero s)

  -- the branches of a run that stands in bytes
  run_leads : (q : ℕ) (t : Tree) (a : Tokens) → Stands big numbers bs q a → Aim (places a) (jumps (marks 0 a)) (targets t) → Leads big bs q t a
  run_leads q t a s m = led big numbers bs q (places a) (jumps (marks 0 a)) (targets t) m (told big numbers bs q (marks 0 a) (run_shown q a s))

  -- the branches of nested runs
  inner_lead : (q : ℕ) (t : Tree) (ks : List Inner) → Held big numbers bs q ks → Inside t ks → Nested big bs q t ks
  inner_lead q end [] h i = tt
  inner_lead q end (k ∷ ks) h i = i
  inner_lead q (plain o ds t) ks h i = inner_lead q t ks h i
  inner_lead q (nest y t) [] h i = i
  inner_lead q (nest y t) (k ∷ ks) h i =
      let at : ℕ = q + k.place in (
        run_leads at y k.run h.0 i.0,
        inner_lead at y (inners (marks 0 k.run)) (held big numbers bs at (marks 0 k.run) (run_shown at k.run h.0)) i.1,
        inner_lead q t ks h.1 i.2,
      )

  -- the branches of a run, nested ones too, wherever it stands
  pub all_lead : (q : ℕ) (t : Tree) (a : Tokens) → Stands big numbers bs q a → Aim (places a) (jumps (marks 0 a)) (targets t) →
      Inside t (inners (marks 0 a)) → Leads big bs q t a × Nested big bs q t (inners (marks 0 a))
  all_lead q t a s m i =
      (run_leads q t a s m, inner_lead q t (inners (marks 0 a)) (held big numbers bs q (marks 0 a) (run_shown q a s)) i)

pub branches_lead : BranchesLead
branches_lead e s t a h =
    first_step (size_tree e s t) (λ size. encode_tree e s (starts e s 0 t) 0 t)
    ((places a ≡ starts e s 0 t)
    × ((big : Bool) (numbers : ℕ → ℕ) (before after : List ℕ) →
    let bs = before ++ (bytes_of big (shown numbers (length before) a) ++ after) in
    Leads big bs (length before) t a × Nested big bs (length before) t (inners (marks 0 a))))
    a h
    (λ n is k. let l = tree_landed e s (starts e s 0 t) 0 t a k in
    let own : places a ≡ starts e s 0 t = ap (λ (m : ℕ). firsts (marks 0 a) ++ (m ∷ [])) (omega arith) ∙ l.begins in (
      own,
      λ big numbers before after.
          all_lead big numbers (before ++ (bytes_of big (shown numbers (length before) a) ++ after)) (length before) t a
          (record { before = before; after = after; whole = refl; place = refl })
          (subst (λ ps. Aim ps (jumps (marks 0 a)) (targets t)) (sym own) l.aims) l.holds,
    ))

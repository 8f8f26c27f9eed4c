-- The weight of the expressions that no entry value holds.
use Rattle.std.proofs.Common.{◌≡◌, ℕ, zero, suc, ◌+◌, ◌*◌, ◌<◌, ◌≤◌, Bool, true, false, cond, List, [], ◌∷◌, ◌++◌, length, get_or, take, set, sym, refl, ap, ◌∙◌, ⊎_elim, arith, length-set}
use Rattle.std.proofs.lemmas.List.{take_more_set, get_or-set_same, get_or-set_other, set_past}
use Rattle.std.proofs.lemmas.Bool.{cases_eq, cases_lt}
use Rattle.op.specs.declared.operation.Operation.{Operation}
use Rattle.book_state.specs.declared.expression.Expression.{Expression}
use Rattle.book_state.specs.declared.shape.Shape.{Shape}
use Rattle.book_state.specs.declared.shape.Shape.TheVariants.{Plain, Holding, Branching, Nesting}
use Rattle.book_state.specs.Operations.{shape}
use Rattle.book_state.specs.State.{expression_of, no_expression, no_operation, data_of, nested_by, nested_of, weight_of}
use Rattle.book_state.specs.Calls.{marked, unmarked, freed, freed_by}
use Rattle.book_state.specs.Whole.{own, roots}
use Rattle.book_state.proofs.Slices.{gathered_ext}
use Rattle.book_state.proofs.Shapes.{nested_kept}

roots-append : (xs ys : List Expression) → roots (xs ++ ys) ≡ roots xs + roots ys
roots-append [] ys = omega arith
roots-append (x ∷ xs) ys = let h = roots-append xs ys in omega arith

-- one more expression
pub roots_push : (es : List Expression) (n : ℕ) (e : Expression) → n < length es → roots (take (n + 1) (set es n e)) ≡ roots (take n es) + own e
roots_push es n e l = let a = ap roots (take_more_set es n e l) in let b = roots-append (take n es) (e ∷ []) in omega arith

own_free : (e : Expression) → e.nested ≡ false → own e ≡ e.weight
own_free e h = ap (λ (b : Bool). cond b 0 e.weight) h

own_held : (e : Expression) → e.nested ≡ true → own e ≡ 0
own_held e h = ap (λ (b : Bool). cond b 0 e.weight) h

-- an expression is replaced
roots-set : (es : List Expression) (c n : ℕ) (e : Expression) → n < c → c ≤ length es → roots (take c (set es n e)) + own (expression_of es n) ≡ roots (take c es) + own e
roots-set [] c n e l h = absurd (omega arith)
roots-set (x ∷ es) zero n e l h = absurd (omega arith)
roots-set (x ∷ es) (suc c) zero e l h = omega arith
roots-set (x ∷ es) (suc c) (suc n) e l h = let i = roots-set es c n e (omega arith) (omega arith) in omega arith

-- one that is nested no longer counts, and one that is freed counts again
pub roots_mark : (es : List Expression) (c n : ℕ) → n < c → c ≤ length es → (expression_of es n).nested ≡ false →
    roots (take c (set es n (marked (expression_of es n)))) + (expression_of es n).weight ≡ roots (take c es)
roots_mark es c n l h e = let a = roots-set es c n (marked (expression_of es n)) l h in let b = own_free (expression_of es n) e in omega arith

roots_unmark : (es : List Expression) (c n : ℕ) → n < c → c ≤ length es → (expression_of es n).nested ≡ true →
    roots (take c (set es n (unmarked (expression_of es n)))) ≡ roots (take c es) + (expression_of es n).weight
roots_unmark es c n l h e = let a = roots-set es c n (unmarked (expression_of es n)) l h in let b = own_held (expression_of es n) e in omega arith

-- a mark leaves all else of each expression
pub kept_mark : (es : List Expression) (n : ℕ) → n < length es → (k : ℕ) → unmarked (expression_of (set es n (marked (expression_of es n))) k) ≡ unmarked (expression_of es k)
kept_mark es n l k = ⊎_elim
    (λ e. ap (λ j. unmarked (expression_of (set es n (marked (expression_of es n))) j)) e ∙ (ap unmarked (get_or-set_same es n (marked (expression_of es n)) no_expression l) ∙ ap (λ j. unmarked (expression_of es j)) (sym e)))
    (λ ne. ap unmarked (get_or-set_other es n k (marked (expression_of es n)) no_expression ne))
    (cases_eq k n)

kept_one : (h : Shape) (es : List Expression) (k : ℕ) → unmarked (expression_of (freed_by h es) k) ≡ unmarked (expression_of es k)
kept_one Plain es k = refl
kept_one (Holding d) es k = refl
kept_one (Branching t) es k = refl
kept_one (Nesting n) es k = ⊎_elim
    (λ e. ⊎_elim
    (λ l. ap (λ j. unmarked (expression_of (set es n (unmarked (expression_of es n))) j)) e ∙ (ap unmarked (get_or-set_same es n (unmarked (expression_of es n)) no_expression l) ∙ ap (λ j. unmarked (expression_of es j)) (sym e)))
    (λ l. ap (λ v. unmarked (expression_of v k)) (set_past es n (unmarked (expression_of es n)) l))
    (cases_lt n (length es)))
    (λ ne. ap unmarked (get_or-set_other es n k (unmarked (expression_of es n)) no_expression ne))
    (cases_eq k n)

pub kept_freed : (xs : List Operation) (es : List Expression) (k : ℕ) → unmarked (expression_of (freed xs es) k) ≡ unmarked (expression_of es k)
kept_freed [] es k = refl
kept_freed (x ∷ xs) es k = kept_freed xs (freed_by (shape x) es) k ∙ kept_one (shape x) es k

pub length-one : (h : Shape) (es : List Expression) → length (freed_by h es) ≡ length es
length-one Plain es = refl
length-one (Holding d) es = refl
length-one (Branching t) es = refl
length-one (Nesting n) es = length-set es n (unmarked (expression_of es n))

pub length-freed : (xs : List Operation) (es : List Expression) → length (freed xs es) ≡ length es
length-freed [] es = refl
length-freed (x ∷ xs) es = length-freed xs (freed_by (shape x) es) ∙ length-one (shape x) es

-- one that no operation nests is as it was
other_one : (h : Shape) (es : List Expression) (m : ℕ) → (h ≡ Nesting m → ⊥) → expression_of (freed_by h es) m ≡ expression_of es m
other_one Plain es m f = refl
other_one (Holding d) es m f = refl
other_one (Branching t) es m f = refl
other_one (Nesting n) es m f = get_or-set_other es n m (unmarked (expression_of es n)) no_expression (λ e. f (ap Nesting (sym e)))

pub other_freed : (xs : List Operation) (es : List Expression) (m : ℕ) → ((i : ℕ) → i < length xs → shape (get_or xs i no_operation) ≡ Nesting m → ⊥) → expression_of (freed xs es) m ≡ expression_of es m
other_freed [] es m f = refl
other_freed (x ∷ xs) es m f = other_freed xs (freed_by (shape x) es) m (λ i l e. f (suc i) (omega arith) e) ∙ other_one (shape x) es m (f zero (omega arith))

-- what is freed is not marked any more
stays : (h : Shape) (es : List Expression) (m : ℕ) → (expression_of es m).nested ≡ false → (expression_of (freed_by h es) m).nested ≡ false
stays Plain es m e = e
stays (Holding d) es m e = e
stays (Branching t) es m e = e
stays (Nesting n) es m e = ⊎_elim
    (λ q. ⊎_elim
    (λ l. ap (λ j. (expression_of (set es n (unmarked (expression_of es n))) j).nested) q ∙ ap (λ (x : Expression). x.nested) (get_or-set_same es n (unmarked (expression_of es n)) no_expression l))
    (λ l. ap (λ v. (expression_of v m).nested) (set_past es n (unmarked (expression_of es n)) l) ∙ e)
    (cases_lt n (length es)))
    (λ ne. ap (λ (x : Expression). x.nested) (get_or-set_other es n m (unmarked (expression_of es n)) no_expression ne) ∙ e)
    (cases_eq m n)

pub stays_all : (xs : List Operation) (es : List Expression) (m : ℕ) → (expression_of es m).nested ≡ false → (expression_of (freed xs es) m).nested ≡ false
stays_all [] es m e = e
stays_all (x ∷ xs) es m e = stays_all xs (freed_by (shape x) es) m (stays (shape x) es m e)

freed-one : (h : Shape) (es : List Expression) (m : ℕ) → m < length es → h ≡ Nesting m → (expression_of (freed_by h es) m).nested ≡ false
freed-one h es m l e =
    ap (λ (v : Shape). (expression_of (freed_by v es) m).nested) e ∙ ap (λ (x : Expression). x.nested) (get_or-set_same es m (unmarked (expression_of es m)) no_expression l)

pub freed_all : (xs : List Operation) (es : List Expression) (m i : ℕ) → m < length es → i < length xs → shape (get_or xs i no_operation) ≡ Nesting m → (expression_of (freed xs es) m).nested ≡ false
freed_all [] es m i l h e = absurd (omega arith)
freed_all (x ∷ xs) es m zero l h e = stays_all xs (freed_by (shape x) es) m (freed-one (shape x) es m l e)
freed_all (x ∷ xs) es m (suc i) l h e = let n = length-one (shape x) es in freed_all xs (freed_by (shape x) es) m i (omega arith) (omega arith) e

roots-one : (h : Shape) (es : List Expression) (c : ℕ) → c ≤ length es → ((m : ℕ) → h ≡ Nesting m → (m < c) × ((expression_of es m).nested ≡ true)) →
    roots (take c (freed_by h es)) ≡ roots (take c es) + nested_by es h
roots-one Plain es c l f = omega arith
roots-one (Holding d) es c l f = omega arith
roots-one (Branching t) es c l f = omega arith
roots-one (Nesting n) es c l f = let g = f n refl in roots_unmark es c n g.0 l g.1

-- the expressions that operations nest, each once, count again when they are freed
pub roots-freed : (xs : List Operation) (es : List Expression) (c : ℕ) → c ≤ length es →
    ((i m : ℕ) → i < length xs → shape (get_or xs i no_operation) ≡ Nesting m → (m < c) × ((expression_of es m).nested ≡ true)) →
    ((i j m : ℕ) → i < j → j < length xs → shape (get_or xs i no_operation) ≡ Nesting m → shape (get_or xs j no_operation) ≡ Nesting m → ⊥) →
    roots (take c (freed xs es)) ≡ roots (take c es) + nested_of es xs
roots-freed [] es c l f g = omega arith
roots-freed (x ∷ xs) es c l f g =
    let n = length-one (shape x) es in
    let a = roots-one (shape x) es c l (λ m e. f zero m (omega arith) e) in
    let same : (m : ℕ) → (shape x ≡ Nesting m → ⊥) → expression_of (freed_by (shape x) es) m ≡ expression_of es m = other_one (shape x) es in
    let b : roots (take c (freed xs (freed_by (shape x) es))) ≡ roots (take c (freed_by (shape x) es)) + nested_of (freed_by (shape x) es) xs =
    roots-freed xs (freed_by (shape x) es) c (omega arith)
    (λ i m h e. let q = f (suc i) m (omega arith) e in (q.0, ap (λ (y : Expression). y.nested) (same m (λ k. g zero (suc i) m (omega arith) (omega arith) k e)) ∙ q.1))
    (λ i j m h k e d. g (suc i) (suc j) m (omega arith) (omega arith) e d) in
    let d : nested_of (freed_by (shape x) es) xs ≡ nested_of es xs =
    gathered_ext ◌+◌ (λ y. nested_by (freed_by (shape x) es) (shape y)) (λ y. nested_by es (shape y)) (λ y. nested_kept es (freed_by (shape x) es) (kept_one (shape x) es) (shape y)) xs in
    omega arith

-- a weight in its parts
pub weight_parts : (es : List Expression) (xs : List Operation) → weight_of es xs ≡ 266 * length xs + data_of xs + nested_of es xs
weight_parts es [] = omega arith
weight_parts es (x ∷ xs) = let h = weight_parts es xs in omega arith

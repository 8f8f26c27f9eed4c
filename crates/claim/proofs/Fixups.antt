-- Lists of references: those that a test keeps, the first at an offset, and their order.
use Rattle.std.proofs.Common.{◌≡◌, ℕ, ◌+◌, ◌<◌, ◌≤◌, Bool, true, false, cond, not, ◌&&◌, eqb, leb, List, [], ◌∷◌, ◌++◌, length, Some, sym, refl, ap, ◌∙◌, inl, inr, arith}
use Rattle.std.proofs.lemmas.Bool.{and_parts, ne_eqb, eqb-true, le-leb}
use Rattle.common.specs.declared.fixup.DebugInfoFixup.{DebugInfoFixup}
use Rattle.dwarf.specs.Leb.{uleb, sleb}
use Rattle.dwarf.specs.Tokens.{Tokens, done, code, unsigned, signed, fixed, displacement, block, short, nested, reference, raw}
use Rattle.dwarf.specs.Bytes.{size_of}
use Rattle.dwarf.specs.References.{references, Wide, In}
use Rattle.dwarf.proofs.Placeholders.{inside}
use Rattle.claim.specs.Calls.{stands_at, first_of, without_first}
use Rattle.claim.specs.History.{keep}
use Rattle.claim.specs.Claim.{Rising, Within}

pub keep_append : (test : DebugInfoFixup → Bool) (xs ys : List DebugInfoFixup) → keep test (xs ++ ys) ≡ keep test xs ++ keep test ys
unfolding keep
keep_append test [] ys = refl
keep_append test (x ∷ xs) ys = go (test x) (keep_append test xs ys)
  where
    go : (b : Bool) → keep test (xs ++ ys) ≡ keep test xs ++ keep test ys
        → cond b (x ∷ keep test (xs ++ ys)) (keep test (xs ++ ys)) ≡ cond b (x ∷ keep test xs) (keep test xs) ++ keep test ys
    go true e = ap (λ z. x ∷ z) e
    go false e = e

pub keep_all : (test : DebugInfoFixup → Bool) (xs : List DebugInfoFixup) → ((p : DebugInfoFixup) → In p xs → test p ≡ true) → keep test xs ≡ xs
unfolding keep
keep_all test [] h = refl
keep_all test (x ∷ xs) h = rw (h x (inl refl)) (ap (λ z. x ∷ z) (keep_all test xs (λ p i. h p (inr i))))

pub in_keep : (test : DebugInfoFixup → Bool) (xs : List DebugInfoFixup) (p : DebugInfoFixup) → In p (keep test xs) → In p xs × (test p ≡ true)
unfolding keep
in_keep test [] p h = absurd h
in_keep test (x ∷ xs) p h = go (test x) refl h (λ k. in_keep test xs p k)
  where
    go : (b : Bool) → test x ≡ b → In p (cond b (x ∷ keep test xs) (keep test xs)) → (In p (keep test xs) → In p xs × (test p ≡ true))
        → In p (x ∷ xs) × (test p ≡ true)
    go true e (inl k) ih = (inl k, ap test (sym k) ∙ e)
    go true e (inr k) ih = (inr (ih k).0, (ih k).1)
    go false e k ih = (inr (ih k).0, (ih k).1)

-- what is kept of what is kept
pub keep_more : (f g k : DebugInfoFixup → Bool) (xs : List DebugInfoFixup) → ((x : DebugInfoFixup) → k x ≡ cond (g x) (f x) false)
    → keep g (keep f xs) ≡ keep k xs
unfolding keep
keep_more f g k [] h = refl
keep_more f g k (x ∷ xs) h = rw (h x) (go (f x) (g x) refl (keep_more f g k xs h))
  where
    go : (a b : Bool) → g x ≡ b → keep g (keep f xs) ≡ keep k xs
        → keep g (cond a (x ∷ keep f xs) (keep f xs)) ≡ cond (cond b a false) (x ∷ keep k xs) (keep k xs)
    go true true e ih = rw (e, keep) (ap (λ z. x ∷ z) ih)
    go true false e ih = rw (e, keep) ih
    go false true e ih = ih
    go false false e ih = ih

pub first_in : (test : DebugInfoFixup → Bool) (xs : List DebugInfoFixup) (p : DebugInfoFixup) → first_of test xs ≡ Some p → In p xs × (test p ≡ true)
unfolding first_of
first_in test [] p h = absurd cc
first_in test (x ∷ xs) p h = go (test x) refl h (first_in test xs p)
  where
    go : (b : Bool) → test x ≡ b → cond b (Some x) (first_of test xs) ≡ Some p → (first_of test xs ≡ Some p → In p xs × (test p ≡ true))
        → In p (x ∷ xs) × (test p ≡ true)
    go true e k ih = let z : x ≡ p = cc in (inl z, ap test (sym z) ∙ e)
    go false e k ih = (inr (ih k).0, (ih k).1)

-- a reference that stands at an offset has it
pub stands_offset : (size offset : ℕ) (p : DebugInfoFixup) → stands_at size offset p ≡ true → p.offset ≡ offset
stands_offset size offset p h = eqb-true p.offset offset (and_parts (eqb p.offset offset) (leb (p.offset + p.width) size) h).0

-- references lie one behind the other
pub rising_less : (at less : ℕ) (xs : List DebugInfoFixup) → less ≤ at → Rising at xs → Rising less xs
rising_less at less [] l r = tt
rising_less at less (x ∷ xs) l r = let z = r.0 in (omega arith, r.1, r.2)

pub rising_append : (at next : ℕ) (xs ys : List DebugInfoFixup) → at ≤ next → Rising at xs
    → ((p : DebugInfoFixup) → In p xs → p.offset + p.width ≤ next) → Rising next ys → Rising at (xs ++ ys)
rising_append at next [] ys l r h k = rising_less next at ys l k
rising_append at next (x ∷ xs) ys l r h k =
    (r.0, r.1, rising_append (x.offset + x.width) next xs ys (h x (inl refl)) r.2 (λ p i. h p (inr i)) k)

pub rising_keep : (test : DebugInfoFixup → Bool) (at : ℕ) (xs : List DebugInfoFixup) → Rising at xs → Rising at (keep test xs)
unfolding keep
rising_keep test at [] r = tt
rising_keep test at (x ∷ xs) r = go (test x) (rising_keep test (x.offset + x.width) xs r.2)
  where
    go : (b : Bool) → Rising (x.offset + x.width) (keep test xs) → Rising at (cond b (x ∷ keep test xs) (keep test xs))
    go true k = (r.0, r.1, k)
    go false k = let z = r.0 in rising_less (x.offset + x.width) at (keep test xs) (omega arith) k

pub rising_tokens : (at : ℕ) (ts : Tokens) → Wide ts → Rising at (references at ts)
unfolding references
rising_tokens at done w = tt
rising_tokens at (code c ts) w = rising_less (at + 1) at (references (at + 1) ts) (omega arith) (rising_tokens (at + 1) ts w)
rising_tokens at (unsigned n ts) w =
    let k : ℕ = at + length (uleb n) in rising_less k at (references k ts) (omega arith) (rising_tokens k ts w)
rising_tokens at (signed z ts) w = let k : ℕ = at + length (sleb z) in rising_less k at (references k ts) (omega arith) (rising_tokens k ts w)
rising_tokens at (fixed width n ts) w = rising_less (at + width) at (references (at + width) ts) (omega arith) (rising_tokens (at + width) ts w)
rising_tokens at (displacement z ts) w = rising_less (at + 2) at (references (at + 2) ts) (omega arith) (rising_tokens (at + 2) ts w)
rising_tokens at (block bytes ts) w =
    let k : ℕ = at + length (uleb (length bytes)) + length bytes in rising_less k at (references k ts) (omega arith) (rising_tokens k ts w)
rising_tokens at (short bytes ts) w =
    let k : ℕ = at + 1 + length bytes in rising_less k at (references k ts) (omega arith) (rising_tokens k ts w)
rising_tokens at (nested inner ts) w =
    let k : ℕ = at + length (uleb (size_of inner)) in
    rising_append at (k + size_of inner) (references k inner) (references (k + size_of inner) ts) (omega arith)
    (rising_less k at (references k inner) (omega arith) (rising_tokens k inner w.0)) (λ p i. (inside k inner p i).to)
    (rising_tokens (k + size_of inner) ts w.1)
rising_tokens at (reference width unit entry ts) w = (omega arith, w.0, rising_tokens (at + width) ts w.1)
rising_tokens at (raw bytes ts) w =
    rising_less (at + length bytes) at (references (at + length bytes) ts) (omega arith) (rising_tokens (at + length bytes) ts w)

-- two references at one offset are one
later : (at : ℕ) (xs : List DebugInfoFixup) (p : DebugInfoFixup) → Rising at xs → In p xs → at ≤ p.offset
later at [] p r i = absurd i
later at (x ∷ xs) p r (inl e) = let z = r.0 in let y : x.offset ≡ p.offset = ap (λ (q : DebugInfoFixup). q.offset) e in omega arith
later at (x ∷ xs) p r (inr i) = let z = later (x.offset + x.width) xs p r.2 i in let y = r.0 in omega arith

pub unique : (at : ℕ) (xs : List DebugInfoFixup) (p q : DebugInfoFixup) → Rising at xs → In p xs → In q xs → p.offset ≡ q.offset → p ≡ q
unique at [] p q r i j e = absurd i
unique at (x ∷ xs) p q r (inl i) (inl j) e = sym i ∙ j
unique at (x ∷ xs) p q r (inl i) (inr j) e =
    let z = later (x.offset + x.width) xs q r.2 j in let l = r.1 in
    let y : x.offset ≡ p.offset = ap (λ (o : DebugInfoFixup). o.offset) i in absurd (omega arith)
unique at (x ∷ xs) p q r (inr i) (inl j) e =
    let z = later (x.offset + x.width) xs p r.2 i in let l = r.1 in
    let y : x.offset ≡ q.offset = ap (λ (o : DebugInfoFixup). o.offset) j in absurd (omega arith)
unique at (x ∷ xs) p q r (inr i) (inr j) e = unique (x.offset + x.width) xs p q r.2 i j e

-- references that lie within so many bytes
pub all_within : (size : ℕ) (xs : List DebugInfoFixup) → ((p : DebugInfoFixup) → In p xs → p.offset + p.width ≤ size) → Within size xs
all_within size [] h = tt
all_within size (x ∷ xs) h = (h x (inl refl), all_within size xs (λ p i. h p (inr i)))

-- without the one at an offset are those that are not there
keep_later : (offset at : ℕ) (xs : List DebugInfoFixup) → offset < at → Rising at xs → keep (λ p. not (eqb p.offset offset)) xs ≡ xs
unfolding keep
keep_later offset at [] l r = refl
keep_later offset at (x ∷ xs) l r =
    let z = r.0 in
    let ne : x.offset ≡ offset → ⊥ = λ e. omega arith in
    rw (ne_eqb x.offset offset ne) (ap (λ (y : List DebugInfoFixup). x ∷ y) (keep_later offset (x.offset + x.width) xs (omega arith) r.2))

pub without_keep : (size offset at : ℕ) (xs : List DebugInfoFixup) → Rising at xs → Within size xs
    → without_first (stands_at size offset) xs ≡ keep (λ p. not (eqb p.offset offset)) xs
unfolding keep without_first
without_keep size offset at [] r w = refl
without_keep size offset at (x ∷ xs) r w =
    rw (le-leb (x.offset + x.width) size w.0) (go (eqb x.offset offset) refl (without_keep size offset (x.offset + x.width) xs r.2 w.1))
  where
    go : (b : Bool) → eqb x.offset offset ≡ b
        → without_first (stands_at size offset) xs ≡ keep (λ p. not (eqb p.offset offset)) xs
        → cond (b && true) xs (x ∷ without_first (stands_at size offset) xs)
        ≡ cond (not b) (x ∷ keep (λ p. not (eqb p.offset offset)) xs) (keep (λ p. not (eqb p.offset offset)) xs)
    go true e h = let z = eqb-true x.offset offset e in let l = r.1 in sym (keep_later offset (x.offset + x.width) xs (omega arith) r.2)
    go false e h = ap (λ (y : List DebugInfoFixup). x ∷ y) h

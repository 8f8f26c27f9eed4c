-- Answers that may be missing.
use Rattle.std.proofs.Common.{◌≡◌, ℕ, Bool, true, false, cond, List, Some, None, Option, refl, ap, arith}
use Rattle.dwarf.specs.Reader.{got, and_then}

-- an answer is there only if both are
pub record Both {A B : Type 0} (first : Option A) (next : A → Option B) (b : B) : Type 0 where
  pub value : A
  pub first_is : first ≡ Some value
  pub next_is : next value ≡ Some b

pub both : {A B : Type 0} (first : Option A) (next : A → Option B) (b : B) → and_then first next ≡ Some b → Both first next b
both None next b e = absurd (let z : ◌≡◌ {A = ℕ} 0 1 = cc in omega arith)
both (Some a) next b e = record { value = a; first_is = refl; next_is = e }

-- an answer at an equal value
pub got_same : {A : Type 0} {a b : A} → (bytes : List ℕ) → a ≡ b → got a bytes ≡ got b bytes
got_same {A} bytes e = ap (λ (x : A). got x bytes) e

-- an answer that passed a test is the one that was tested
pub passed : {A : Type 0} (test : Bool) (a b : A) → cond test (Some a) None ≡ Some b → a ≡ b
passed true a b e = cc
passed false a b e = absurd (let z : ◌≡◌ {A = ℕ} 0 1 = cc in omega arith)

pub test_passed : {A : Type 0} (test : Bool) (a b : A) → cond test (Some a) None ≡ Some b → test ≡ true
test_passed true a b e = refl
test_passed false a b e = absurd (let z : ◌≡◌ {A = ℕ} 0 1 = cc in omega arith)

-- the same second answer wherever there is a first
pub and_then_same : {A B : Type 0} (first : Option A) (f g : A → Option B) → ((a : A) → first ≡ Some a → f a ≡ g a) → and_then first f ≡ and_then first g
and_then_same None f g same = refl
and_then_same (Some a) f g same = same a refl

-- the same answer wherever a test passes
pub cond_same : {A : Type 0} (test : Bool) (x y z : A) → (test ≡ true → x ≡ y) → cond test x z ≡ cond test y z
cond_same true x y z same = same refl
cond_same false x y z same = refl

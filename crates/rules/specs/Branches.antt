-- Where branches lead, by the bytes in which they stand.
use Rattle.std.specs.Prelude.{◌≡◌, ℕ, ◌+◌, ◌-◌, ◌*◌, ◌<◌, Bool, cond, List, [], ◌∷◌, ◌++◌, length, ℤ, pos, negsuc, ◌+ℤ◌, Some, None, Option, nat_lt, slice_index}
use Rattle.dwarf.specs.Leb.{uleb, sleb}
use Rattle.dwarf.specs.Bytes.{size_of}
use Rattle.dwarf.specs.Tokens.{Tokens, done, code, unsigned, signed, fixed, displacement, block, short, nested, reference, raw}
use Rattle.rules.specs.Kinds.{Kind, given, bare, branch, nesting, other, kind_of}
use Rattle.rules.specs.Tree.{Tree, end, plain, nest}

-- What stands at a place of a run, counted from the run's start.
pub data Mark : Type 0 where
  -- the first byte of an operation
  first : ℕ → Mark
  -- the two bytes of a branch's displacement, and the displacement
  jump : ℕ → ℤ → Mark
  -- the first byte of nested operations, and these
  inner : ℕ → Tokens → Mark

-- what stands where in a run that goes on at p
abbrev pub marks : ℕ → Tokens → List Mark
marks p done = []
marks p (code c r) = first p ∷ marks (p + 1) r
marks p (unsigned n r) = marks (p + length (uleb n)) r
marks p (signed z r) = marks (p + length (sleb z)) r
marks p (fixed width n r) = marks (p + width) r
marks p (displacement z r) = jump p z ∷ marks (p + 2) r
marks p (block bs r) = marks (p + (length (uleb (length bs)) + length bs)) r
marks p (short bs r) = marks (p + (1 + length bs)) r
marks p (nested a r) = inner (p + length (uleb (size_of a))) a ∷ marks (p + (length (uleb (size_of a)) + size_of a)) r
marks p (reference width owner entry r) = marks (p + width) r
marks p (raw bs r) = first p ∷ marks (p + length bs) r

pub record Jump : Type 0 where
  pub place : ℕ
  pub by : ℤ

pub record Inner : Type 0 where
  pub place : ℕ
  pub run : Tokens

-- the places at which operations begin
abbrev pub firsts : List Mark → List ℕ
firsts [] = []
firsts (first p ∷ ms) = p ∷ firsts ms
firsts (jump p z ∷ ms) = firsts ms
firsts (inner p a ∷ ms) = firsts ms

-- the displacements
abbrev pub jumps : List Mark → List Jump
jumps [] = []
jumps (first p ∷ ms) = jumps ms
jumps (jump p z ∷ ms) = record { place = p; by = z } ∷ jumps ms
jumps (inner p a ∷ ms) = jumps ms

-- the nested operations
abbrev pub inners : List Mark → List Inner
inners [] = []
inners (first p ∷ ms) = inners ms
inners (jump p z ∷ ms) = inners ms
inners (inner p a ∷ ms) = record { place = p; run = a } ∷ inners ms

-- the first byte of each operation of a run, and last the run's end
abbrev pub places : Tokens → List ℕ
places a = firsts (marks 0 a) ++ (size_of a ∷ [])

-- the operation that a branch names, in front of others
abbrev pub named : Kind → List (Option ℕ) → List (Option ℕ)
named given ks = ks
named (bare c) ks = ks
named (branch target) ks = target ∷ ks
named (nesting n) ks = ks
named other ks = ks

-- the operations that the branches of an expression name, in order
abbrev pub targets : Tree → List (Option ℕ)
targets end = []
targets (plain o bs t) = named (kind_of o) (targets t)
targets (nest y t) = targets t

-- the number that two bytes stand for, given the first and the second
abbrev pub two_bytes : Bool → ℕ → ℕ → ℕ
two_bytes big a b = cond big (256 * a + b) (a + 256 * b)

-- a number of 16 bits, read as two's complement
abbrev pub from_sixteen : ℕ → ℤ
from_sixteen n = cond (nat_lt n 32768) (pos n) (negsuc (65535 - n))

-- the signed number in the two bytes at a place
abbrev pub signed_at : Bool → List ℕ → ℕ → ℤ
signed_at big bs p = from_sixteen (two_bytes big (slice_index bs p) (slice_index bs (p + 1)))

-- Each branch names an operation or the end, and the two bytes of its displacement lead there from the place after them.
-- q is where the run begins in the bytes; other places are counted from q.
abbrev pub Lead : Bool → List ℕ → ℕ → List ℕ → List Jump → List (Option ℕ) → Type 0
Lead big bs q ps [] [] = Unit {0}
Lead big bs q ps [] (k ∷ ks) = ⊥
Lead big bs q ps (j ∷ js) [] = ⊥
Lead big bs q ps (j ∷ js) (None ∷ ks) = ⊥
Lead big bs q ps (j ∷ js) (Some k ∷ ks) =
    (k < length ps) × (signed_at big bs (q + j.place) +ℤ pos (j.place + 2) ≡ pos (slice_index ps k)) × Lead big bs q ps js ks

-- the branches of an expression's own operations lead where they should
abbrev pub Leads : Bool → List ℕ → ℕ → Tree → Tokens → Type 0
Leads big bs q t a = Lead big bs q (places a) (jumps (marks 0 a)) (targets t)

-- and so do those of its nested expressions, each within its own
abbrev pub Nested : Bool → List ℕ → ℕ → Tree → List Inner → Type 0
Nested big bs q end [] = Unit {0}
Nested big bs q end (k ∷ ks) = ⊥
Nested big bs q (plain o ds t) ks = Nested big bs q t ks
Nested big bs q (nest y t) [] = ⊥
Nested big bs q (nest y t) (k ∷ ks) =
    Leads big bs (q + k.place) y k.run × Nested big bs (q + k.place) y (inners (marks 0 k.run)) × Nested big bs q t ks

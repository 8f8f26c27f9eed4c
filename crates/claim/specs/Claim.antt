-- What holds after every list of calls that are made from a new section on.
use Rattle.std.specs.Prelude.{◌≡◌, ℕ, ◌+◌, ◌<◌, ◌≤◌, Bool, true, false, not, ◌⊎◌, List, [], ◌∷◌, ◌++◌, length, take, drop, Some, Ok, Err, Option, Result, slice_index}
use Rattle.common.specs.declared.error.Error.{Error}
use Rattle.common.specs.declared.fixup.DebugInfoFixup.{DebugInfoFixup}
use Rattle.dwarf.specs.Reader.{and_then}
use Rattle.dwarf.specs.Fixed.{read_fixed}
use Rattle.dwarf.specs.Bytes.{size_of}
use Rattle.dwarf.specs.References.{references, shown, In}
use Rattle.dwarf.specs.Reading.{read}
use Rattle.rules.specs.Scope.{in_frame}
use Rattle.rules.specs.Sizes.{size_tree}
use Rattle.rules.specs.Encode.{encode}
use Rattle.rules.specs.Readable.{readable}
use Rattle.rules.specs.Branches.{marks, inners, Leads, Nested}
use Rattle.claim.specs.Section.{State, New, entry_offset}
use Rattle.claim.specs.Calls.{Call, begin_unit, append, place_entry, ask_size, ask_frame_size, write, write_frame, fill, finish, ask_pending, Written, Answer, ok, number, refusal, event, answer, after, state, History, history}
use Rattle.claim.specs.History.{Chunk, expression, laid, Fill, fills, numbers, closed, layout, sizes, set_down, keep}
use Rattle.claim.specs.Fits.{Fits}

-- the references that the calls of a history have set down, in a section that began as s₀
abbrev pub all_set_down : State → History → List DebugInfoFixup
all_set_down s₀ h = set_down (length s₀.bytes) (laid h)

-- references one behind the other, from an offset on, each of a byte at least
abbrev pub Rising : ℕ → List DebugInfoFixup → Type 0
Rising at [] = Unit {0}
Rising at (p ∷ ps) = (at ≤ p.offset) × (0 < p.width) × Rising (p.offset + p.width) ps

-- every reference ends within so many bytes
abbrev pub Within : ℕ → List DebugInfoFixup → Type 0
Within size [] = Unit {0}
Within size (p ∷ ps) = (p.offset + p.width ≤ size) × Within size ps

-- no reference was filled twice
abbrev pub Once : List Fill → Type 0
Once [] = Unit {0}
Once (f ∷ fs) = (closed fs f.place.offset ≡ false) × Once fs

-- a fill is one of those listed
abbrev pub FilledBy : DebugInfoFixup → ℕ → List Fill → Type 0
FilledBy p n [] = ⊥
FilledBy p n (f ∷ fs) = ((f.place ≡ p) × (f.number ≡ n)) ⊎ FilledBy p n fs

-- What is pending is, by rising offset and within the section's bytes, exactly what accepted writes set down and no accepted fill has closed.
pub record PendingTold (s₀ : State) (h : History) (s : State) : Type 0 where
  pub exactly : s.pending ≡ keep (λ p. not (closed (fills h) p.offset)) (all_set_down s₀ h)
  pub rising : Rising 0 s.pending
  pub within : Within (length s.bytes) s.pending
  pub filled : (p : DebugInfoFixup) (n : ℕ) → FilledBy p n (fills h) → In p (all_set_down s₀ h)
  pub once : Once (fills h)

-- an accepted expression, and where it begins in the section
pub record Stands (s₀ : State) (h : History) (w : Written) (at : ℕ) : Type 0 where
  pub before : List Chunk
  pub behind : List Chunk
  pub among : laid h ≡ before ++ (expression w ∷ behind)
  pub start : at ≡ length s₀.bytes + sizes before

-- Every accepted expression that is readable reads back, in its write's encoding, as its own operations, with the number in each reference's place.
abbrev pub ReadsTold : State → History → State → Type 0
ReadsTold s₀ h s =
    (w : Written) (at : ℕ) → Stands s₀ h w at → readable w.tree ≡ true → Fits w.tree
    → read s.big w.encoding (take (size_of w.tokens) (drop at s.bytes)) ≡ Some (shown (numbers (fills h)) at w.tokens)

-- that number is zero until a fill closes the reference, and then its entry's offset
pub record NumbersTold (h : History) (s : State) : Type 0 where
  pub zero : (offset : ℕ) → closed (fills h) offset ≡ false → numbers (fills h) offset ≡ 0
  pub number : (p : DebugInfoFixup) (n : ℕ) → FilledBy p n (fills h)
      → (numbers (fills h) p.offset ≡ n) × (entry_offset s.units p.unit p.entry ≡ Some n)

-- the number that the bytes at a reference's place read as
abbrev pub number_at : Bool → List ℕ → DebugInfoFixup → Option ℕ
number_at big bytes p = and_then (read_fixed big p.width (drop p.offset bytes)) (λ g. Some g.value)

-- a number stands at the place of a reference, and it is not zero and the offset of the reference's entry
pub record Closed (s : State) (p : DebugInfoFixup) : Type 0 where
  pub offset : ℕ
  pub stands : number_at s.big s.bytes p ≡ Some offset
  pub entry : entry_offset s.units p.unit p.entry ≡ Some offset
  pub not_zero : 0 < offset

-- Every entry reference of any accepted expression reads as zero exactly until a fill closes it, and from then on as its entry's offset.
abbrev pub ReferencesTold : State → History → State → Type 0
ReferencesTold s₀ h s =
    (p : DebugInfoFixup) → In p (all_set_down s₀ h)
    → (closed (fills h) p.offset ≡ false → number_at s.big s.bytes p ≡ Some 0) × (closed (fills h) p.offset ≡ true → Closed s p)

-- Every branch of any accepted expression, nested ones too, leads by the section's bytes to the operation that it names or to its own expression's end.
abbrev pub BranchesTold : State → History → State → Type 0
BranchesTold s₀ h s =
    (w : Written) (at : ℕ) → Stands s₀ h w at
    → Leads s.big s.bytes at w.tree w.tokens × Nested s.big s.bytes at w.tree (inners (marks 0 w.tokens))

-- The section is what it held at first, and behind that the accepted appends and expressions in call order, with the numbers filled so far.
pub record BytesTold (s₀ : State) (h : History) (s : State) : Type 0 where
  pub exactly : s.bytes ≡ s₀.bytes ++ layout s.big (numbers (fills h)) (length s₀.bytes) (laid h)
  pub grown : length s.bytes ≡ length s₀.bytes + sizes (laid h)
  pub within : length s.bytes ≤ s.capacity
  pub capacity : s.capacity ≡ s₀.capacity
  pub order : s.big ≡ s₀.big

-- Each accepted expression is what the rules give for it, it has as many bytes as its size says, and a frame expression holds no reference.
pub record RulesTold (w : Written) : Type 0 where
  pub encoded : encode w.encoding w.scope w.tree ≡ Ok w.tokens
  pub sized : size_tree w.encoding w.scope w.tree ≡ Ok (size_of w.tokens)
  pub framed : w.scope ≡ in_frame → (at : ℕ) → references at w.tokens ≡ []

-- All that is told of a section after a history of calls.
pub record Told (s₀ : State) (h : History) (s : State) : Type 0 where
  pub pending : PendingTold s₀ h s
  pub reads : ReadsTold s₀ h s
  pub numbers : NumbersTold h s
  pub references : ReferencesTold s₀ h s
  pub branches : BranchesTold s₀ h s
  pub bytes : BytesTold s₀ h s
  pub rules : (w : Written) (at : ℕ) → Stands s₀ h w at → RulesTold w

-- a call, and what it answered
pub record Made : Type 0 where
  pub call : Call
  pub answered : Answer

abbrev pub made : Call → Answer → Made
made c a = record { call = c; answered = a }

unfoldable pub calls : List Made → List Call
calls [] = []
calls (d ∷ ds) = d.call ∷ calls ds

-- calls and answers, the last first, that lead from one state to another
unfoldable pub Runs : State → List Made → State → Type 0
Runs s₀ [] s = s₀ ≡ s
Runs s₀ (d ∷ ds) s = (m : State) × Runs s₀ ds m × (d.answered ≡ answer (event m d.call)) × (s ≡ after m (event m d.call))

-- The claim: it is all told of every section to which calls and answers lead from a new one.
abbrev pub Claim : Type 0
Claim = (s₀ : State) (ds : List Made) (s : State) → New s₀ → Runs s₀ ds s → Told s₀ (history s₀ (calls ds)) s

-- a fill among those listed wrote over a byte
abbrev pub Covered : ℕ → List Fill → Type 0
Covered x [] = ⊥
Covered x (f ∷ fs) = ((f.place.offset ≤ x) × (x < f.place.offset + f.place.width)) ⊎ Covered x fs

-- every byte stays as it is, unless one of the fills wrote over it
abbrev pub Kept : List ℕ → List ℕ → List Fill → Type 0
Kept old new fs = (x : ℕ) → x < length old → (slice_index new x ≡ slice_index old x) ⊎ Covered x fs

-- From any section of a run on, no byte that is there changes in later calls outside the placeholders that they fill.
abbrev pub Steady : Type 0
Steady = (s₀ : State) (ds : List Made) (m : State) → New s₀ → Runs s₀ ds m
    → (later : List Call) → Kept m.bytes (state m later).bytes (fills (history m later))

-- the size that is asked for just before a write is what the write answers, where it is accepted
abbrev pub Foretold : State → Call → Answer → Type 0
Foretold m (begin_unit e) a = Unit {0}
Foretold m (append bytes) a = Unit {0}
Foretold m (place_entry entry) a = Unit {0}
Foretold m (ask_size x) a = Unit {0}
Foretold m (ask_frame_size x e) a = Unit {0}
Foretold m (write x) a = (n : ℕ) → a ≡ number n → answer (event m (ask_size x)) ≡ number n
Foretold m (write_frame x e) a = (n : ℕ) → a ≡ number n → answer (event m (ask_frame_size x e)) ≡ number n
Foretold m (fill offset) a = Unit {0}
Foretold m finish a = Unit {0}
Foretold m (ask_pending index) a = Unit {0}

-- what holds once a call and its answer are added to a run that led to m
pub record Onward (s₀ : State) (ds : List Made) (m : State) (c : Call) (a : Answer) (s : State) : Type 0 where
  pub run : Runs s₀ (made c a ∷ ds) s
  pub told : Told s₀ (history s₀ (c ∷ calls ds)) s
  pub kept : Kept m.bytes s.bytes (fills (event m c ∷ []))
  pub foretold : Foretold m c a

-- for one call: whatever run led from a new section to it, the run with this call and its answer leads on, and the claim holds of it
abbrev pub Carries : State → Call → Answer → State → Type 0
Carries m c a s = (s₀ : State) (ds : List Made) → New s₀ → Runs s₀ ds m → Onward s₀ ds m c a s

-- what every call keeps: its answer and what it leaves are the rules', and it carries the claim on
pub record Stepped (m : State) (c : Call) (a : Answer) (s : State) : Type 0 where
  pub answered : a ≡ answer (event m c)
  pub left : s ≡ after m (event m c)
  pub carried : Carries m c a s

-- every call that answers and leaves what the rules say carries the claim on
abbrev pub CallsCarry : Type 0
CallsCarry = (m : State) (c : Call) → Stepped m c (answer (event m c)) (after m (event m c))

-- a call's answer, where the code answers nothing or a refusal, a number or a refusal, or a row
abbrev pub plainly : Result (Unit {0}) Error → Answer
plainly (Ok x) = ok
plainly (Err e) = refusal e

abbrev pub counted : Result ℕ Error → Answer
counted (Ok n) = number n
counted (Err e) = refusal e

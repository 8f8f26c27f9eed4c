-- The section that a program holds.
use Rattle.std.specs.Prelude.{length}
use Rattle.writer.specs.Meaning.{Sink, Memory, Keeps}
use Rattle.claim.specs.Section.{State}
use Rattle.claim.specs.Calls.{Call, Answer}
use Rattle.claim.specs.Claim.{Stepped}
use Rattle.section_tables.specs.View.{view}
use Rattle.section.specs.declared.section.Section.{Section}

-- what it holds, by what its sink means
abbrev pub state_of : {W E : Type 0} {w e : _} → (W → Sink) → Section W E w e → State
state_of means s = view (means s.sink) s.tables

-- a call answers and leaves what the rules say, and carries the claim on
abbrev pub Steps : {W E : Type 0} {w e : _} → (W → Sink) → Section W E w e → Call → Answer → Section W E w e → Type 0
Steps means old c a new = Stepped (state_of means old) c a (state_of means new)

-- the memory under its sink keeps what is in it past the section's end
abbrev pub KeepsMemory : {W E : Type 0} {w e : _} → (W → Sink) → (W → Memory) → Section W E w e → Section W E w e → Type 0
KeepsMemory means memory old new = Keeps (memory old.sink) (memory new.sink) (length (means new.sink).content)

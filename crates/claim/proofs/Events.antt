-- What is known of each call that is not refused.
use Rattle.std.proofs.Common.{◌≡◌, ℕ, ◌+◌, ◌^◌, ◌<◌, ◌≤◌, Bool, true, false, not, ltb, leb, length, is_some, Some, None, Ok, Err, Option, Result, refl, arith}
use Rattle.std.proofs.lemmas.Bool.{ltb-false, leb-false, leb-true, eqb-false, not-false}
use Rattle.common.specs.declared.encoding.Encoding.{Encoding}
use Rattle.common.specs.declared.error.Error.{Error}
use Rattle.common.specs.declared.error.Error.TheVariants.{
  ValueTooLarge,
  NoRoom,
  TooManyReferences,
  TooManyUnits,
  NoUnit,
  BadEntry,
  AlreadyPlaced,
  AtUnitStart,
  StillPending,
}
use Rattle.common.specs.declared.fixup.DebugInfoFixup.{DebugInfoFixup}
use Rattle.dwarf.specs.Tokens.{Tokens}
use Rattle.dwarf.specs.Bytes.{size_of}
use Rattle.dwarf.specs.References.{references, In}
use Rattle.rules.specs.Scope.{in_frame}
use Rattle.rules.specs.Tree.{Tree}
use Rattle.rules.specs.Sizes.{size_tree}
use Rattle.rules.specs.Encode.{encode}
use Rattle.unit.specs.Offsets.{unit_scope}
use Rattle.claim.specs.Section.{State, fits, last_number, last_unit, entry_offset}
use Rattle.claim.specs.Calls.{
  Call,
  begin_unit,
  append,
  place_entry,
  ask_size,
  ask_frame_size,
  write,
  write_frame,
  fill,
  finish,
  ask_pending,
  Written,
  Event,
  refused,
  began,
  appended,
  placed,
  sized,
  wrote,
  wrote_frame,
  filled,
  finished,
  listed,
  refused_if,
  on_tree,
  on_value,
  none_begun,
  with_room,
  placing,
  writing,
  framing,
  stands_at,
  first_of,
  filling_with,
  filling,
  event,
}
use Rattle.claim.proofs.Fixups.{first_in}
use Rattle.claim.proofs.Encoded.{Encoded, accepted}

-- what the tests of a call leave to be true where it was not refused
abbrev pub Sound : State → Event → Type 0
Sound s (refused e) = Unit {0}
Sound s (began unit e) = Unit {0}
Sound s (appended bytes) = length s.bytes + length bytes ≤ s.capacity
Sound s (placed unit entry offset) =
    (unit < length s.units) × (entry < 128) × (entry_offset s.units unit entry ≡ None) × (offset ≡ length s.bytes) × (0 < offset)
Sound s (sized n) = Unit {0}
Sound s (wrote w) = Encoded w × (length s.bytes + size_of w.tokens ≤ s.capacity) × (w.scope ≡ unit_scope (last_unit s))
Sound s (wrote_frame w) = Encoded w × (length s.bytes + size_of w.tokens ≤ s.capacity) × (w.scope ≡ in_frame)
Sound s (filled p n) = In p s.pending × (entry_offset s.units p.unit p.entry ≡ Some n) × (n < 256 ^ p.width)
Sound s (finished n) = Unit {0}
Sound s (listed p) = Unit {0}

module _ (s : State) where
  sound_if : (test : Bool) (e : Error) (ev : Event) → (test ≡ false → Sound s ev) → Sound s (refused_if test e ev)
  sound_if true e ev h = tt
  sound_if false e ev h = h refl

  sound_room : (n : ℕ) (ev : Event) → (length s.bytes + n ≤ s.capacity → Sound s ev) → Sound s (with_room s n ev)
  sound_room n ev h =
      sound_if (not (fits s n)) NoRoom ev (λ k. h (leb-true (length s.bytes + n) s.capacity (not-false (fits s n) k)))

  sound_tree : (x : Option Tree) (next : Tree → Event) → ((t : Tree) → Sound s (next t)) → Sound s (on_tree x next)
  sound_tree None next h = tt
  sound_tree (Some t) next h = h t

  sound_value : {A : Type 0} (r : Result A Error) (next : A → Event) → ((a : A) → r ≡ Ok a → Sound s (next a)) → Sound s (on_value r next)
  sound_value (Ok a) next h = h a refl
  sound_value (Err e) next h = tt

  is_none : (o : Option ℕ) → is_some o ≡ false → o ≡ None
  is_none None h = refl
  is_none (Some a) h = absurd cc

  sound_placing : (entry : ℕ) → Sound s (placing s entry)
  sound_placing entry =
      let here : Option ℕ = entry_offset s.units (last_number s) entry in
      sound_if (none_begun s) NoUnit _
      (λ z. sound_if (ltb 127 entry) BadEntry _
      (λ a. sound_if (is_some here) AlreadyPlaced _
      (λ b. sound_if (leb (length s.bytes) (last_unit s).start) AtUnitStart (placed (last_number s) entry (length s.bytes))
      (λ c.
      let ne = eqb-false (length s.units) 0 z in
      let below = ltb-false 127 entry a in
      let l = leb-false (length s.bytes) (last_unit s).start c in
      (omega arith, omega arith, is_none here b, refl, omega arith)))))

  sound_writing : (t : Tree) (a : Tokens) → encode (last_unit s).encoding (unit_scope (last_unit s)) t ≡ Ok a
      → Sound s (writing s (last_unit s).encoding (unit_scope (last_unit s)) t a)
  sound_writing t a h =
      let w : Written = record { encoding = (last_unit s).encoding; scope = unit_scope (last_unit s); tree = t; tokens = a } in
      sound_if (ltb 512 (length s.pending + length (references (length s.bytes) a))) TooManyReferences (with_room s (size_of a) (wrote w))
      (λ few. sound_room (size_of a) (wrote w) (λ room. (accepted w h, room, refl)))

  sound_framing : (e : Encoding) (t : Tree) (a : Tokens) → encode e in_frame t ≡ Ok a → Sound s (framing s e t a)
  sound_framing e t a h =
      let w : Written = record { encoding = e; scope = in_frame; tree = t; tokens = a } in
      sound_room (size_of a) (wrote_frame w) (λ room. (accepted w h, room, refl))

  sound_filling_with : (p : DebugInfoFixup) (o : Option ℕ) → In p s.pending → entry_offset s.units p.unit p.entry ≡ o
      → Sound s (filling_with p o)
  sound_filling_with p None f h = tt
  sound_filling_with p (Some n) f h = sound_if (leb (256 ^ p.width) n) ValueTooLarge (filled p n) (λ a. (f, h, leb-false (256 ^ p.width) n a))

  sound_filling : (test : DebugInfoFixup → Bool) (o : Option DebugInfoFixup) → first_of test s.pending ≡ o → Sound s (filling s o)
  sound_filling test None h = tt
  sound_filling test (Some p) h =
      sound_filling_with p (entry_offset s.units p.unit p.entry) (first_in test s.pending p h).0 refl

pub sound : (s : State) (c : Call) → Sound s (event s c)
unfolding event
sound s (begin_unit e) = sound_if s _ TooManyUnits (began (length s.units) e) (λ b. tt)
sound s (append bytes) = sound_room s (length bytes) (appended bytes) (λ b. b)
sound s (place_entry entry) = sound_placing s entry
sound s (ask_size x) =
    sound_if s (none_begun s) NoUnit _
    (λ b. sound_tree s x _ (λ t. sound_value s (size_tree (last_unit s).encoding (unit_scope (last_unit s)) t) sized (λ n h. tt)))
sound s (ask_frame_size x e) = sound_tree s x _ (λ t. sound_value s (size_tree e in_frame t) sized (λ n h. tt))
sound s (write x) =
    sound_if s (none_begun s) NoUnit _
    (λ b. sound_tree s x _ (λ t. sound_value s (encode (last_unit s).encoding (unit_scope (last_unit s)) t) _ (λ a h. sound_writing s t a h)))
sound s (write_frame x e) = sound_tree s x _ (λ t. sound_value s (encode e in_frame t) _ (λ a h. sound_framing s e t a h))
sound s (fill offset) =
    sound_filling s (stands_at (length s.bytes) offset) (first_of (stands_at (length s.bytes) offset) s.pending) refl
sound s finish = sound_if s (ltb 0 (length s.pending)) StillPending (finished (length s.bytes)) (λ b. tt)
sound s (ask_pending index) = tt

-- References that end within so many bytes.
use Rattle.std.proofs.Common.{◌≡◌, ℕ, zero, suc, ◌+◌, ◌≤◌, Bool, true, false, cond, leb, List, [], ◌∷◌, ◌++◌, length, take, drop, Ok, Err, Result, refl, ap, ◌∙◌, inl, inr, add-one, arith, length-append, length-take, length-drop}
use Rattle.std.proofs.lemmas.Bool.{leb-true, le-leb, and_parts, and_from}
use Rattle.common.specs.declared.error.Error.{Error}
use Rattle.common.specs.declared.fixup.DebugInfoFixup.{DebugInfoFixup}
use Rattle.dwarf.specs.Bytes.{size_of}
use Rattle.dwarf.specs.Fixed.{is_width}
use Rattle.dwarf.specs.References.{references, In}
use Rattle.dwarf.specs.Tokens.{Tokens}
use Rattle.dwarf.proofs.Placeholders.{inside as token_inside}
use Rattle.dwarf.proofs.Widths.{width_positive}
use Rattle.writer.specs.Meaning.{Sink, fits, appended, patched, replaced}
use Rattle.section_tables.specs.Rows.{rise, wide, inside}
use Rattle.section_tables.proofs.Rises.{rise_lower}

ends : (size : ℕ) (p : DebugInfoFixup) (ps : List DebugInfoFixup) → inside size (p ∷ ps) ≡ true → (p.offset + p.width ≤ size) × (inside size ps ≡ true)
ends size p ps i =
    let a = and_parts (leb (p.offset + p.width) size) (inside size ps) i in
    (leb-true (p.offset + p.width) size a.0, a.1)

one_more : (size : ℕ) (p : DebugInfoFixup) (ps : List DebugInfoFixup) → p.offset + p.width ≤ size → inside size ps ≡ true → inside size (p ∷ ps) ≡ true
one_more size p ps l i = and_from (leb (p.offset + p.width) size) (inside size ps) (le-leb (p.offset + p.width) size l) i

pub inside-longer : (size long : ℕ) (ps : List DebugInfoFixup) → size ≤ long → inside size ps ≡ true → inside long ps ≡ true
inside-longer size long [] l i = refl
inside-longer size long (p ∷ ps) l i =
    let a = ends size p ps i in
    let b = a.0 in one_more long p ps (omega arith) (inside-longer size long ps l a.1)

pub inside-append : (size : ℕ) (ps qs : List DebugInfoFixup) → inside size ps ≡ true → inside size qs ≡ true → inside size (ps ++ qs) ≡ true
inside-append size [] qs i j = j
inside-append size (p ∷ ps) qs i j = let a = ends size p ps i in one_more size p (ps ++ qs) a.0 (inside-append size ps qs a.1 j)

inside_without : (size : ℕ) (ps : List DebugInfoFixup) (i : ℕ) → inside size ps ≡ true → inside size (take i ps ++ drop (suc i) ps) ≡ true
inside_without size [] zero h = refl
inside_without size [] (suc i) h = refl
inside_without size (p ∷ ps) zero h = (ends size p ps h).1
inside_without size (p ∷ ps) (suc i) h = let a = ends size p ps h in one_more size p (take i ps ++ drop (suc i) ps) a.0 (inside_without size ps i a.1)

pub inside-freed : (size : ℕ) (ps qs : List DebugInfoFixup) (i : ℕ) → qs ≡ take i ps ++ drop (i + 1) ps → inside size ps ≡ true → inside size qs ≡ true
inside-freed size ps qs i e h = ap (inside size) (e ∙ ap (λ (z : ℕ). take i ps ++ drop z ps) (add-one i)) ∙ inside_without size ps i h

all_inside : (size : ℕ) (ps : List DebugInfoFixup) → ((p : DebugInfoFixup) → In p ps → p.offset + p.width ≤ size) → inside size ps ≡ true
all_inside size [] h = refl
all_inside size (p ∷ ps) h = one_more size p ps (h p (inl refl)) (all_inside size ps (λ q i. h q (inr i)))

-- the references of operations end within these
pub inside_tokens : (at : ℕ) (ts : Tokens) → inside (at + size_of ts) (references at ts) ≡ true
inside_tokens at ts = all_inside (at + size_of ts) (references at ts) (λ p i. (token_inside at ts p i).to)

-- the bytes of a sink are not fewer once it is appended to
pub inside-appended : (k k' : Sink) (new : Result (List ℕ) Error) (ps : List DebugInfoFixup) → k' ≡ appended k new → inside (length k.content) ps ≡ true
    → inside (length k'.content) ps ≡ true
inside-appended k k' (Err z) ps e i = ap (λ (c : Sink). inside (length c.content) ps) e ∙ i
inside-appended k k' (Ok new) ps e i = ap (λ (c : Sink). inside (length c.content) ps) e ∙ go (fits k (length new))
  where
    go : (b : Bool) → inside (length (cond b (k.content ++ new) k.content)) ps ≡ true
    go true = inside-longer (length k.content) (length (k.content ++ new)) ps (simp length-append (omega arith)) i
    go false = i

-- and as many once it is patched
pub inside-patched : (k k' : Sink) (at : ℕ) (new : Result (List ℕ) Error) (ps : List DebugInfoFixup) → k' ≡ patched k at new → inside (length k.content) ps ≡ true
    → inside (length k'.content) ps ≡ true
inside-patched k k' at (Err z) ps e i = ap (λ (c : Sink). inside (length c.content) ps) e ∙ i
inside-patched k k' at (Ok new) ps e i =
    ap (λ (c : Sink). inside (length c.content) ps) e ∙ go (leb (at + length new) (length k.content)) refl
  where
    go : (b : Bool) → leb (at + length new) (length k.content) ≡ b → inside (length (cond b (replaced k.content at new) k.content)) ps ≡ true
    go true l = ap (λ (n : ℕ). inside n ps) same ∙ i
      where
        same : length (replaced k.content at new) ≡ length k.content
        same = let a = leb-true (at + length new) (length k.content) l in simp (length-append, length-take, length-drop) (omega arith)
    go false l = i

-- references from the end of these bytes on rise behind those within them
pub rise-append : (least size : ℕ) (ps qs : List DebugInfoFixup) → least ≤ size → rise least ps ≡ true → wide ps ≡ true → inside size ps ≡ true
    → rise size qs ≡ true → rise least (ps ++ qs) ≡ true
rise-append least size [] qs l r w i s = rise_lower size least qs l s
rise-append least size (p ∷ ps) qs l r w i s =
    let a = and_parts (leb least p.offset) (rise (p.offset + 1) ps) r in
    let b = and_parts (is_width p.width) (wide ps) w in
    let e = ends size p ps i in
    let f = e.0 in
    let n = width_positive p.width b.0 in
    and_from (leb least p.offset) (rise (p.offset + 1) (ps ++ qs)) a.0 (rise-append (p.offset + 1) size ps qs (omega arith) a.1 b.1 e.1 s)

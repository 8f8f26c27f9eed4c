-- All that is told of a section holds of it.
use Rattle.std.proofs.Common.{◌≡◌, ℕ, ◌+◌, ◌^◌, ◌<◌, Bool, true, false, cond, eqb, List, [], ◌∷◌, ◌++◌, length, take, drop, Some, sym, refl, ap, ◌∙◌, subst, inl, inr, drop_at}
use Rattle.std.proofs.lemmas.Bool.{eqb-true}
use Rattle.common.specs.declared.fixup.DebugInfoFixup.{DebugInfoFixup}
use Rattle.dwarf.specs.Reader.{and_then, ReadsBack}
use Rattle.dwarf.specs.Fixed.{fixed_bytes, read_fixed}
use Rattle.dwarf.specs.Bytes.{bytes_of, size_of}
use Rattle.dwarf.specs.References.{references, shown, In}
use Rattle.dwarf.specs.Reading.{read}
use Rattle.dwarf.specs.WellFormed.{NumbersFit}
use Rattle.dwarf.proofs.Sizes.{length-shown}
use Rattle.dwarf.proofs.Widths.{fixed_reads_back}
use Rattle.dwarf.proofs.Placeholders.{in_left, in_right}
use Rattle.dwarf.proofs.ReadBack.{tokens_read_back}
use Rattle.rules.specs.Branches.{marks, inners, Leads, Nested}
use Rattle.rules.specs.Readable.{readable}
use Rattle.claim.specs.Section.{State, New, entry_offset}
use Rattle.claim.specs.Calls.{Call, Written, state, History, history}
use Rattle.claim.specs.History.{Chunk, expression, content, laid, Fill, fills, numbers, closed, layout, sizes, set_down}
use Rattle.claim.specs.Fits.{Fits}
use Rattle.claim.specs.Claim.{FilledBy, number_at, Closed, Told}
use Rattle.claim.proofs.Fixups.{unique}
use Rattle.claim.proofs.Chunks.{Standing, standing_part, chunk_stands, number_stands, set_down_append, set_down_rising}
use Rattle.claim.proofs.Invariant.{long, left_rising, left-within}
use Rattle.claim.proofs.Steps.{Good, AllGood, good_at, Holds, holds}

-- a number that stands in the bytes reads as itself
number_reads : (big : Bool) (bytes : List ℕ) (p : DebugInfoFixup) (n : ℕ) → n < 256 ^ p.width
    → Standing bytes p.offset (fixed_bytes big p.width n) → number_at big bytes p ≡ Some n
unfolding ReadsBack
number_reads big bytes p n l s =
    let here : List ℕ = fixed_bytes big p.width n in
    let e : drop p.offset bytes ≡ here ++ s.after =
    ap (drop p.offset) s.all ∙ drop_at s.before (here ++ s.after) p.offset s.start in
    ap (λ (z : List ℕ). and_then (read_fixed big p.width z) (λ g. Some g.value)) e
    ∙ ap (λ z. and_then z (λ g. Some g.value)) (fixed_reads_back big p.width n l s.after)

-- a fill that closed the reference at an offset
closing : (offset : ℕ) (fs : List Fill) → closed fs offset ≡ true → (p : DebugInfoFixup) × (n : ℕ) × FilledBy p n fs × (p.offset ≡ offset)
unfolding closed
closing offset [] h = absurd cc
closing offset (f ∷ fs) h = go (eqb offset f.place.offset) refl h (closing offset fs)
  where
    go : (b : Bool) → eqb offset f.place.offset ≡ b → cond b true (closed fs offset) ≡ true
        → (closed fs offset ≡ true → (p : DebugInfoFixup) × (n : ℕ) × FilledBy p n fs × (p.offset ≡ offset))
        → (p : DebugInfoFixup) × (n : ℕ) × FilledBy p n (f ∷ fs) × (p.offset ≡ offset)
    go true e k r = (f.place, f.number, inl (refl, refl), sym (eqb-true offset f.place.offset e))
    go false e k r = let z = r k in (z.0, z.1, inr z.2, z.3)

module _ (s₀ s : State) {cs : List Chunk} {fs : List Fill} (i : Holds s₀ s cs fs) where
  abbrev start : ℕ
  start = length s₀.bytes

  number_there : (p : DebugInfoFixup) → In p (set_down start cs) → number_at s.big s.bytes p ≡ Some (numbers fs p.offset)
  number_there p h =
      number_reads s.big s.bytes p (numbers fs p.offset) (i.invariant.fits p h)
      (subst (λ (z : List ℕ). Standing z p.offset (fixed_bytes s.big p.width (numbers fs p.offset))) (sym i.invariant.told)
      (number_stands s₀.bytes s.big (numbers fs) p 0 cs i.invariant.wide h))

  pub reference_open : (p : DebugInfoFixup) → In p (set_down start cs) → closed fs p.offset ≡ false → number_at s.big s.bytes p ≡ Some 0
  reference_open p h e = number_there p h ∙ ap Some (i.invariant.zeros p.offset e)

  pub reference_closed : (p : DebugInfoFixup) → In p (set_down start cs) → closed fs p.offset ≡ true → Closed s p
  reference_closed p h e =
      let c = closing p.offset fs e in
      let q : DebugInfoFixup = c.0 in
      let n : ℕ = c.1 in
      let same : q ≡ p = unique start (set_down start cs) q p (set_down_rising start cs i.invariant.wide) (i.invariant.there q n c.2) h c.3 in
      let k = i.invariant.fills q n c.2 in
      let entry : entry_offset s.units p.unit p.entry ≡ Some n =
      ap (λ (z : DebugInfoFixup). entry_offset s.units z.unit z.entry) (sym same) ∙ k.1 in
      record {
        offset = n;
        stands = number_there p h ∙ ap Some (ap (numbers fs) (sym c.3) ∙ k.0);
        entry = entry;
        not_zero = (i.low p.unit p.entry n entry).1;
      }

  -- an expression among the pieces
  pub expression_facts : (before : List Chunk) (w : Written) (behind : List Chunk) → cs ≡ before ++ (expression w ∷ behind) → Good (expression w)
  expression_facts before w behind among = good_at before (expression w) behind (subst AllGood among i.good)

  expression_stands : (before : List Chunk) (w : Written) (behind : List Chunk) → cs ≡ before ++ (expression w ∷ behind)
      → Standing s.bytes (start + sizes before) (bytes_of s.big (shown (numbers fs) (start + sizes before) w.tokens))
  unfolding content
  expression_stands before w behind among =
      subst (λ (z : List ℕ). Standing z (start + sizes before) (bytes_of s.big (shown (numbers fs) (start + sizes before) w.tokens)))
      (ap (λ (z : List Chunk). s₀.bytes ++ layout s.big (numbers fs) start z) (sym among) ∙ sym i.invariant.told)
      (chunk_stands s₀.bytes s.big (numbers fs) before (expression w) behind)

  numbers_fit : (before : List Chunk) (w : Written) (behind : List Chunk) → cs ≡ before ++ (expression w ∷ behind)
      → NumbersFit (numbers fs) (references (start + sizes before) w.tokens)
  unfolding set_down content
  numbers_fit before w behind among p h =
      let at : ℕ = start + sizes before in
      i.invariant.fits p (rw (among, set_down_append start before (expression w ∷ behind))
      (in_right p (set_down start before) (set_down at (expression w ∷ behind))
      (in_left p (references at w.tokens) (set_down (at + size_of w.tokens) behind) h)))

  pub expression_reads : (before : List Chunk) (w : Written) (behind : List Chunk) → cs ≡ before ++ (expression w ∷ behind)
      → readable w.tree ≡ true → Fits w.tree
      → read s.big w.encoding (take (size_of w.tokens) (drop (start + sizes before) s.bytes))
      ≡ Some (shown (numbers fs) (start + sizes before) w.tokens)
  expression_reads before w behind among r f =
      let at : ℕ = start + sizes before in
      rw (standing_part (bytes_of s.big (shown (numbers fs) at w.tokens)) (size_of w.tokens) (length-shown s.big (numbers fs) at w.tokens)
      (expression_stands before w behind among))
      (tokens_read_back s.big w.encoding (numbers fs) at w.tokens ((expression_facts before w behind among).1 r f)
      (numbers_fit before w behind among))

  -- its branches lead where they should by the bytes in the section
  abbrev LeadsAt : Written → List ℕ → ℕ → Type 0
  LeadsAt w bytes at = Leads s.big bytes at w.tree w.tokens × Nested s.big bytes at w.tree (inners (marks 0 w.tokens))

  pub expression_leads : (before : List Chunk) (w : Written) (behind : List Chunk) → cs ≡ before ++ (expression w ∷ behind)
      → LeadsAt w s.bytes (start + sizes before)
  expression_leads before w behind among =
      let at : ℕ = start + sizes before in
      let st = expression_stands before w behind among in
      let l = (expression_facts before w behind among).0.leads s.big (numbers fs) st.before st.after in
      let m : LeadsAt w (st.before ++ (bytes_of s.big (shown (numbers fs) at w.tokens) ++ st.after)) at =
      subst (λ (k : ℕ). LeadsAt w (st.before ++ (bytes_of s.big (shown (numbers fs) k w.tokens) ++ st.after)) k) st.start l in
      subst (λ (z : List ℕ). LeadsAt w z at) (sym st.all) m

pub told : (s₀ s : State) (h : History) → Holds s₀ s (laid h) (fills h) → Told s₀ h s
told s₀ s h i =
    record {
      pending = record {
        exactly = i.invariant.left;
        rising = left_rising i.invariant;
        within = left-within i.invariant;
        filled = i.invariant.there;
        once = i.invariant.once;
      };
      reads = λ w at st r f. rw st.start (expression_reads s₀ s i st.before w st.behind st.among r f);
      numbers = record { zero = i.invariant.zeros; number = i.invariant.fills };
      references = λ p k. (reference_open s₀ s i p k, reference_closed s₀ s i p k);
      branches = λ w at st. rw st.start (expression_leads s₀ s i st.before w st.behind st.among);
      bytes = record {
        exactly = i.invariant.told;
        grown = long i.invariant;
        within = i.within;
        capacity = i.capacity;
        order = i.order;
      };
      rules = λ w at st. (expression_facts s₀ s i st.before w st.behind st.among).0.rules;
    }

pub told_of_calls : (s₀ : State) (calls : List Call) → New s₀ → Told s₀ (history s₀ calls) (state s₀ calls)
told_of_calls s₀ calls n = told s₀ (state s₀ calls) (history s₀ calls) (holds s₀ calls n)

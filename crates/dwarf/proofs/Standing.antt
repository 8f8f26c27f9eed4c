-- The bytes at the places of references.
use Rattle.std.proofs.Common.{◌≡◌, ℕ, ◌+◌, ◌-◌, Bool, List, ◌++◌, length, take, drop, refl, arith, take_at, drop_at}
use Rattle.dwarf.specs.Leb.{uleb, sleb}
use Rattle.dwarf.specs.Tokens.{Tokens, done, code, unsigned, signed, fixed, displacement, block, short, nested, reference, raw}
use Rattle.dwarf.specs.Bytes.{bytes_of, size_of}
use Rattle.dwarf.specs.References.{shown, ReferencesStand}
use Rattle.dwarf.proofs.Widths.{length_fixed}
use Rattle.dwarf.proofs.Patching.{Differ, shown_differ}

zeros : (big : Bool) (at : ℕ) (ts : Tokens) → bytes_of big (shown (λ _. 0) at ts) ≡ bytes_of big ts
unfolding bytes_of shown
zeros big at done = refl
zeros big at (code c ts) = rw (zeros big (at + 1) ts)
zeros big at (unsigned n ts) = rw (zeros big (at + length (uleb n)) ts)
zeros big at (signed z ts) = rw (zeros big (at + length (sleb z)) ts)
zeros big at (fixed width n ts) = rw (zeros big (at + width) ts)
zeros big at (displacement z ts) = rw (zeros big (at + 2) ts)
zeros big at (block bytes ts) = rw (zeros big (at + length (uleb (length bytes)) + length bytes) ts)
zeros big at (short bytes ts) = rw (zeros big (at + 1 + length bytes) ts)
zeros big at (nested inner ts) =
    rw (zeros big (at + length (uleb (size_of inner))) inner, zeros big (at + length (uleb (size_of inner)) + size_of inner) ts)
zeros big at (reference width unit entry ts) = rw (zeros big (at + width) ts)
zeros big at (raw bytes ts) = rw (zeros big (at + length bytes) ts)

-- the stretch that differs, by position
stretch : {old new : List ℕ} {at offset : ℕ} {x y : List ℕ} → (width : ℕ) → length old ≡ width → Differ old new at offset x y
    → take width (drop (offset - at) x) ≡ old
stretch {old} {new} {at} {offset} width l h =
    let s : length h.before ≡ offset - at = omega (arith, h.start) in
    rw (h.first, drop_at h.before (old ++ h.after) (offset - at) s, take_at old h.after width l)

pub references_stand : ReferencesStand
references_stand =
    record {
      as_numbers = λ big value at ts p w h. stretch p.width (length_fixed big p.width (value p.offset)) (shown_differ big value p 0 at ts w h);
      as_zeros = zeros;
    }

-- A root given back as it was answered is searched as the root itself.
use mathlib.Core.Path.{◌≡◌, refl, sym, ap, ◌∙◌}
use mathlib.Core.List.{List, ◌++◌, append-nil}
use Prim.Native.Nat.{ℕ, ◌-◌}
use native.Mathlib.Omega.{arith}
use lib.ListN.{length, take, length-append}
use Rattle.std.proofs.Math.Seq.{take-append_seam}
use Rattle.octets.specs.Bytes.{padded_to}
use Rattle.root.specs.Words.{label_bytes, root_words, root_text}
use Rattle.search.specs.Search.{search}
use Rattle.search.specs.Given.{root_given, GivenBack}

uuid_back : (uuid rest : List ℕ) → length uuid ≡ 16 → padded_to 16 (uuid ++ rest) ≡ uuid
uuid_back uuid rest e =
    let n : 16 - length (uuid ++ rest) ≡ 0 = omega (arith, length-append uuid rest) in
    let f : take 16 (uuid ++ rest) ≡ uuid = ap (λ (k : ℕ). take k (uuid ++ rest)) (sym e) ∙ take-append_seam uuid rest in
    rw (n, f) (append-nil uuid)

pub given_back : GivenBack
unfolding search root_given root_words root_text
given_back image root kind key state e = rw (uuid_back root.uuid (label_bytes root.label) e) refl

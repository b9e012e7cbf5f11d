use Rattle.std.proofs.Common.{ℕ, ◌+◌, ◌≤◌, ◌<◌, List, ◌++◌, arith, ap, length, take, drop, ◌-◌, ◌≡◌, ◌∙◌, sym, length-drop, length-append, length-take}
use Rattle.std.proofs.Math.ListN.{drop_of_length-le}
use Rattle.wire_io.proofs.PieceLemmas.{copied_prefix, slice_from}
use Rattle.workload.proofs.pipes.InputSource.read.Goals as goal

pub returns-clause-bytes : goal.returns-clause-bytes
returns-clause-bytes c =
    let bytes : List ℕ = c.deref.result.now in
    let at : ℕ = c.self.inside.at in
    let n : ℕ = c.min-count.result in
    let into : List ℕ = c.args.into.now in
    let prefix : List ℕ = c.copy_from_slice.new.self in
    let left : c.args.self.now ≡ drop at bytes = sym c.self.view_is ∙ ap (drop at) (sym c.deref.ensures.value) in
    let short : n ≤ length (take (length bytes - at) (drop at bytes)) = omega arith in (
      left ∙ copied_prefix bytes into prefix at n short c.copy_from_slice.ensures.after ∙ ap (λ l. take n (prefix ++ drop n into) ++ drop (at + n) l) c.deref.ensures.value,
      λ none some.
          let room : 0 < length into = omega (arith, length-append prefix (drop n into), length-drop n into, length-take n into, c.copy_from_slice.ensures.len) in
          let end : length bytes ≤ at + n = omega (arith, ap length (slice_from bytes at), length-drop at bytes) in
          drop_of_length-le c.self.inside.bytes.items (omega (arith, ap length c.deref.ensures.value)),
    )

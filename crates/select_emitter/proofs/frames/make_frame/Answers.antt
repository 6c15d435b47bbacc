-- The table of one function.
use Rattle.std.proofs.Common.{◌≡◌, ◌+◌, ◌*◌, ◌<◌, length, ap, sym, subst, ◌∙◌}
use Rattle.std.specs.Prelude.{slice_index}
use Rattle.msp_select.specs.Frames.{count_pushed, others_below, own_bytes, rounded}
use Rattle.select_emitter.specs.Pushes.{AreBehind, flags_of}
use Rattle.select_emitter.proofs.Framing.{bytes_small, few_pushed, near_behind, place_near}
use Rattle.select_emitter.proofs.frames.make_frame.Goals as goal

pub make_pushes-requires-clause-few : goal.make_pushes-requires-clause-few
make_pushes-requires-clause-few c = rw c.as_slice.ensures (few_pushed c.args.function.now c.requires.params c.requires.small)

pub homes-requires-clause-near : goal.homes-requires-clause-near
homes-requires-clause-near c =
    rw c.as_slice-3.ensures.value (near_behind c.args.function.now.params c.in_ok-pushes.pushes.behind.items (subst (λ ps. AreBehind ps c.in_ok-pushes.pushes.behind.items) c.as_slice.ensures c.in_ok-pushes.ensures.behind)
    (few_pushed c.args.function.now c.requires.params c.requires.small))

pub returns : goal.returns
returns c =
    let fn = c.args.function.now in
    let pushes = c.in_ok-pushes.pushes in
    let params = c.as_slice.ensures in
    let behind : AreBehind fn.params pushes.behind.items = subst (λ ps. AreBehind ps pushes.behind.items) params c.in_ok-pushes.ensures.behind in
    let table : AreBehind fn.params c.as_slice-2.result.now = subst (AreBehind fn.params) (sym c.as_slice-2.ensures.value) behind in
    let table_again : AreBehind fn.params c.as_slice-3.result.now = subst (AreBehind fn.params) (sym c.as_slice-3.ensures.value) behind in
    let many : length c.as_slice-3.result.now ≡ fn.values = ap length c.as_slice-3.ensures.value ∙ c.in_ok-pushes.ensures.many in
    let own : c.rounded-bytes.result + 2 * c.others.result ≡ own_bytes fn =
    ap (λ n. n + 2 * c.others.result) c.rounded-bytes.ensures ∙ ap (λ n. rounded fn.frame + 2 * n) (c.others.ensures.others fn.params table ∙ ap (others_below fn.params) (ap length c.as_slice-2.ensures.value ∙ c.in_ok-pushes.ensures.many)) in
    record {
      own = own;
      words = c.in_ok-pushes.ensures.count ∙ ap count_pushed params;
      flags = c.new.ensures ∙ c.in_ok-pushes.ensures.each ∙ ap flags_of params;
      many = ap length c.new-2.ensures ∙ c.in_ok-homes.ensures.many ∙ many;
      homes = λ v lt. ap (λ l. slice_index l v) c.new-2.ensures ∙ c.in_ok-homes.ensures.homes fn table_again c.rounded-bytes.ensures own v (subst (λ n. v < n) (sym many) lt);
      near = place_near fn c.requires.params c.requires.small;
      small = bytes_small fn c.requires.params c.requires.small;
    }

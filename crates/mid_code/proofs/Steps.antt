-- Steps of the innermost call, over the others.
use Rattle.std.proofs.Common.{◌≡◌, ◌≢◌, ℕ, zero, suc, ◌+◌, ◌-◌, ◌^◌, ◌<◌, ◌≤◌, Bool, true, false, List, [], ◌∷◌, ◌++◌, length, Option, Some, None, All, take, map, refl, sym, ap, ◌∙◌, subst, arith}
use Rattle.std.specs.Prelude.{slice_get, slice_index, slice_index_or, slice_set}
use Rattle.std.proofs.lemmas.List.Elements.{All-get_or, All-head, All-set, All-tail}
use Rattle.nm_base.specs.declared.action.Action.{Action}
use Rattle.mid_code.specs.declared.instr.Mid.{Mid}
use Rattle.mid_code.specs.declared.instr.Mid.TheVariants.{Call, Help}
use Rattle.mid_code.specs.declared.instr.Mid.TheVariants as mid
use Rattle.mid_code.specs.declared.code.MidCode.{MidCode}
use Rattle.mid_code.specs.declared.state.MidCall.{MidCall}
use Rattle.mid_code.specs.Form.{AreBelow, IsMidCode, NamesOwn, goes_elsewhere}
use Rattle.mid_code.specs.Machine.{Activation, Next, Goes, fn_of, give_back, take_back, perform, shown, step, moved, write_all}
use Rattle.mid_code.specs.State.{IsCallOf, MayTake, activation_of, calls_over, no_call}
use Rattle.mid_code.proofs.Calls.{behind, innermost, own_end, own_form, own_room, replaced}

All-get : {A : Type 0} (P : A → Type 0) (xs : List A) (k : ℕ) (x : A) → slice_get xs k ≡ Some x → All P xs → P x
All-get P [] k x at all = absurd (cc)
All-get P (y ∷ ys) zero x at all = let e : y ≡ x = cc in subst P e (All-head P y ys all)
All-get P (y ∷ ys) (suc k) x at all = All-get P ys k x at (All-tail P y ys all)

pub shown_of : (n m : Next) (o : Option Action) → n ≡ m → o ≡ shown m → o ≡ shown n
shown_of n m o e h = h ∙ ap shown (sym e)

pub moved_of : (n m : Next) (answer : ℕ) (s : List Activation) → n ≡ m → s ≡ moved m answer → s ≡ moved n answer
moved_of n m answer s e h = h ∙ ap (λ x. moved x answer) (sym e)

-- only a Call takes values back
not_taken : (i : Mid) → ((g : ℕ) (ins outs : List ℕ) → i ≡ mid.Call g ins outs → ⊥) → (a : Activation) (xs : List ℕ) → take_back (Some i) a xs ≡ a
not_taken (mid.Set v x) no_call_here a xs = refl
not_taken (mid.Move v x) no_call_here a xs = refl
not_taken (mid.Bin op v x y) no_call_here a xs = refl
not_taken (mid.Carry op v x y) no_call_here a xs = refl
not_taken (mid.Load w v x) no_call_here a xs = refl
not_taken (mid.Store w v x) no_call_here a xs = refl
not_taken (mid.Peek w v x) no_call_here a xs = refl
not_taken (mid.Poke w v x) no_call_here a xs = refl
not_taken (mid.In v port) no_call_here a xs = refl
not_taken (mid.Out port v) no_call_here a xs = refl
not_taken (mid.Label l) no_call_here a xs = refl
not_taken (mid.Jump l) no_call_here a xs = refl
not_taken (mid.Branch test x y l) no_call_here a xs = refl
not_taken (mid.Help h ins outs) no_call_here a xs = refl
not_taken (mid.Ret vs) no_call_here a xs = refl
not_taken (mid.Begin o) no_call_here a xs = refl
not_taken (mid.End o) no_call_here a xs = refl
not_taken (mid.Post k v) no_call_here a xs = refl
not_taken mid.Tick no_call_here a xs = refl
not_taken (mid.Fault code) no_call_here a xs = refl
not_taken (mid.Call g ins outs) no_call_here a xs = absurd (no_call_here g ins outs refl)

module _ (c : MidCode) (form : IsMidCode c) (xs : List MidCall) (t : ℕ) (e : t + 1 ≡ length xs) where
  abbrev pub top_call : MidCall
  top_call = slice_index_or xs t no_call

  pub top_is : All (IsCallOf c) xs → IsCallOf c top_call
  top_is all = All-get_or (IsCallOf c) xs t no_call (omega (arith, e)) all

  pub stepped : (i : Mid) → slice_get (fn_of c top_call.f).code top_call.at ≡ Some i → step c (calls_over xs []) ≡ perform (Some i) c (fn_of c top_call.f) (activation_of top_call) (calls_over (take t xs) [])
  stepped i at = ap (step c) (innermost xs t no_call e) ∙ ap (λ o. perform o c (fn_of c top_call.f) (activation_of top_call) (calls_over (take t xs) [])) at

  pub given_back : (g : ℕ) (ins outs given : List ℕ) → slice_get (fn_of c top_call.f).code top_call.at ≡ Some (Call g ins outs) →
      give_back c (calls_over xs []) given ≡ Goes (write_all (activation_of top_call) outs given ∷ calls_over (take t xs) [])
  given_back g ins outs given at =
      ap (λ s. give_back c s given) (innermost xs t no_call e) ∙ ap (λ o. Goes (take_back o (activation_of top_call) given ∷ calls_over (take t xs) [])) at

  pub may_take : All (IsCallOf c) xs → (i : Mid) (outs : List ℕ) → slice_get (fn_of c top_call.f).code top_call.at ≡ Some i → goes_elsewhere i ≡ false → AreBelow (fn_of c top_call.f).values outs → MayTake c xs t outs
  may_take all i outs at on below = record { below = below; onward = behind (fn_of c top_call.f).code top_call.at i (own_end c form top_call.f (top_is all).function) at on }

  pub room : All (IsCallOf c) xs → top_call.at < 2 ^ 32 - 1
  room all = let o = own_room c form top_call.f (top_is all).function in let p = (top_is all).place in omega (arith, o, p)

  -- the innermost call changed within its function
  pub set_calls : (m : MidCall) → All (IsCallOf c) xs → m.f ≡ top_call.f → m.at < length (fn_of c top_call.f).code → length m.values ≡ length top_call.values → length m.frame ≡ length top_call.frame → All (IsCallOf c) (slice_set xs t m)
  set_calls m all same inside vs fs =
      let old = top_is all in
      All-set (IsCallOf c) xs t m (record {
        function = subst (λ f. f < length c.fns) (sym same) old.function;
        place = subst (λ f. m.at < length (fn_of c f).code) (sym same) inside;
        values = vs ∙ old.values ∙ ap (λ f. (fn_of c f).values) (sym same);
        frame = fs ∙ old.frame ∙ ap (λ f. (fn_of c f).frame) (sym same);
      }) all

  pub names : All (IsCallOf c) xs → (i : Mid) → slice_get (fn_of c top_call.f).code top_call.at ≡ Some i → NamesOwn (fn_of c top_call.f) i
  names all i at = All-get (NamesOwn (fn_of c top_call.f)) (fn_of c top_call.f).code top_call.at i at (own_form c form top_call.f (top_is all).function).names

  pub behind_top : All (IsCallOf c) xs → (i : Mid) → slice_get (fn_of c top_call.f).code top_call.at ≡ Some i → goes_elsewhere i ≡ false → top_call.at + 1 < length (fn_of c top_call.f).code
  behind_top all i at on = behind (fn_of c top_call.f).code top_call.at i (own_end c form top_call.f (top_is all).function) at on

  pub room_of_code : All (IsCallOf c) xs → length (fn_of c top_call.f).code < 2 ^ 32
  room_of_code all = own_room c form top_call.f (top_is all).function

  pub may_take_call : All (IsCallOf c) xs → (i : Mid) (g : ℕ) (ins outs : List ℕ) → slice_get (fn_of c top_call.f).code top_call.at ≡ Some i → NamesOwn (fn_of c top_call.f) i → i ≡ Call g ins outs → MayTake c xs t outs
  may_take_call all i g ins outs at own is =
      let own2 : NamesOwn (fn_of c top_call.f) (Call g ins outs) = subst (NamesOwn (fn_of c top_call.f)) is own in
      may_take all i outs at (ap goes_elsewhere is) own2.written

  pub may_take_help : All (IsCallOf c) xs → (i : Mid) (h : ℕ) (ins outs : List ℕ) → slice_get (fn_of c top_call.f).code top_call.at ≡ Some i → NamesOwn (fn_of c top_call.f) i → i ≡ Help h ins outs → MayTake c xs t outs
  may_take_help all i h ins outs at own is =
      let own2 : NamesOwn (fn_of c top_call.f) (Help h ins outs) = subst (NamesOwn (fn_of c top_call.f)) is own in
      may_take all i outs at (ap goes_elsewhere is) own2.written

  pub not_given_back : (i : Mid) (given : List ℕ) → slice_get (fn_of c top_call.f).code top_call.at ≡ Some i → ((g : ℕ) (ins outs : List ℕ) → i ≡ Call g ins outs → ⊥) →
      calls_over xs [] ≡ moved (give_back c (calls_over xs []) given) 0
  not_given_back i given at other =
      innermost xs t no_call e
      ∙ ap (λ a. a ∷ calls_over (take t xs) []) (sym (not_taken i other (activation_of top_call) given))
      ∙ sym (ap (λ s. moved (give_back c s given) 0) (innermost xs t no_call e) ∙ ap (λ o. take_back o (activation_of top_call) given ∷ calls_over (take t xs) []) at)

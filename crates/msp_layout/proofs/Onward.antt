-- Functions that call only those behind them are good code, also in a row, or alone.
use Rattle.std.proofs.Common.{◌≡◌, ◌⊎◌, inl, inr, ℕ, zero, suc, ◌+◌, ◌-◌, ◌<◌, ◌≤◌, List, [], ◌∷◌, ◌++◌, length, get_or, arith, refl}
use Rattle.std.proofs.lemmas.Bool.{cases_lt}
use Rattle.std.proofs.lemmas.List.{get_or_append_left, get_or-append-add, length-append}
use Rattle.msp_isa.specs.declared.code.CodeFn.{CodeFn}
use Rattle.msp_isa.specs.declared.code.Item.TheVariants as item
use Rattle.msp_isa.specs.declared.instr.Cond.{Cond}
use Rattle.msp_isa.specs.Stands.{item_at, no_code}
use Rattle.msp_layout.specs.Depth.{Names}
use Rattle.msp_layout.specs.Laid.{IsGoodCode, IsGoodFn, IsGoodItem, StandsOnce}
use Rattle.msp_layout.specs.Onward.{AreOnward}
use Rattle.msp_layout.specs.Rows.{ret}

abbrev pub eight : ℕ → List ℕ
eight n = n ∷ n ∷ n ∷ n ∷ n ∷ n ∷ n ∷ n ∷ []

eight_at : (n i : ℕ) → i < 8 → get_or (eight n) i 0 ≡ n
eight_at n zero lt = refl
eight_at n (suc zero) lt = refl
eight_at n (suc (suc zero)) lt = refl
eight_at n (suc (suc (suc zero))) lt = refl
eight_at n (suc (suc (suc (suc zero)))) lt = refl
eight_at n (suc (suc (suc (suc (suc zero))))) lt = refl
eight_at n (suc (suc (suc (suc (suc (suc zero)))))) lt = refl
eight_at n (suc (suc (suc (suc (suc (suc (suc zero))))))) lt = refl
eight_at n (suc (suc (suc (suc (suc (suc (suc (suc k)))))))) lt = absurd (omega arith)

falls : (n f g : ℕ) → f < g → g < n → n - g < n - f
falls n f g a b = omega arith

same_line : (fns line i f : ℕ) → line < fns → i < 8 → get_or (eight line) i 0 ≡ f → f < fns
same_line fns line i f lt below e = omega (arith, eight_at line i below)

pub onward_is_good : (code : List CodeFn) (line : ℕ) → AreOnward code → line < length code → IsGoodCode code (eight line) 0
onward_is_good code line on lt = record {
  fns = on.fns;
  no_cycle = (λ f. length code - f, λ f g below name. falls (length code) f g (on.onward f g below name) ((on.fns f below).callees g name));
  line_fns = λ f name. same_line (length code) line name.0 f lt name.1 name.2;
  reset_fn = omega arith;
}

-- one of so many functions, at a place of their list
pub record IsLink (fns f : ℕ) (x : CodeFn) : Type 0 where
  pub good : IsGoodFn fns x.items x.calls
  pub onward : (g : ℕ) → Names x.calls g → f < g

pub record AreLinks (fns upto : ℕ) (code : List CodeFn) : Type 0 where
  pub len : length code ≡ upto
  pub each : (f : ℕ) → f < upto → IsLink fns f (get_or code f no_code)

pub no_links : (fns : ℕ) → AreLinks fns 0 []
no_links fns = record { len = refl; each = λ f lt. absurd (omega arith) }

at_end : (code : List CodeFn) (x : CodeFn) (f : ℕ) → f ≡ length code → get_or (code ++ x ∷ []) f no_code ≡ x
at_end code x f e = let same : f ≡ length code + 0 = omega arith in rw same (get_or-append-add code (x ∷ []) 0 no_code)

pub link_more : (fns f : ℕ) (code : List CodeFn) (x : CodeFn) → AreLinks fns f code → IsLink fns f x → AreLinks fns (f + 1) (code ++ x ∷ [])
link_more fns f code x are is = record { len = omega (arith, length-append code (x ∷ []), are.len); each = λ g lt. go g (cases_lt g f) lt }
  where
    go : (g : ℕ) → (g < f) ⊎ (f ≤ g) → g < f + 1 → IsLink fns g (get_or (code ++ x ∷ []) g no_code)
    go g (inl below) lt = rw (get_or_append_left code (x ∷ []) no_code g (omega (arith, are.len))) (are.each g below)
    go g (inr above) lt = let e : g ≡ f = omega arith in rw (at_end code x g (omega (arith, are.len)), e) is

pub links_are_onward : (fns : ℕ) (code : List CodeFn) → AreLinks fns fns code → AreOnward code
links_are_onward fns code are = record {
  fns = λ f lt. rw are.len (are.each f (omega (arith, are.len))).good;
  onward = λ f g lt name. (are.each f (omega (arith, are.len))).onward g name;
}

pub alone_is_onward : (x : CodeFn) → IsLink 1 0 x → AreOnward (x ∷ [])
alone_is_onward x is = links_are_onward 1 (x ∷ []) (link_more 1 0 [] x (no_links 1) is)

pub ret_is_good : (fns : ℕ) → IsGoodItem fns ret
ret_is_good fns = (((omega arith, omega arith, omega arith), omega arith), omega arith)

-- a function that only returns
return_items : (fns k : ℕ) → IsGoodItem fns (item_at (ret ∷ []) k)
return_items fns zero = ret_is_good fns
return_items fns (suc k) = tt

return_labels : (k l : ℕ) (c : Cond) → item_at (ret ∷ []) k ≡ item.Jump c l → StandsOnce (ret ∷ []) l
return_labels zero l c e = cc
return_labels (suc k) l c e = cc

pub no_callee : {A : Type 0} → (g : ℕ) → Names [] g → A
no_callee g name = absurd (omega (arith, name.1))

pub return_is_link : (fns f : ℕ) (x : CodeFn) → x.items ≡ ret ∷ [] → x.calls ≡ [] → IsLink fns f x
return_is_link fns f x e h = record {
  good = rw (e, h) (record { few = omega arith; each = λ k lt. return_items fns k; labels = return_labels; callees = λ g name. no_callee g name });
  onward = rw h (λ g name. no_callee g name);
}

-- a function that calls one other
one_at : (x i g : ℕ) → i < 1 → get_or (x ∷ []) i 0 ≡ g → x ≡ g
one_at x zero g lt e = e
one_at x (suc i) g lt e = absurd (omega arith)

module _ (fns callee : ℕ) (lt : callee < fns) where
  call_items : (k : ℕ) → IsGoodItem fns (item_at (item.CallFn callee ∷ ret ∷ []) k)
  call_items zero = lt
  call_items (suc zero) = ret_is_good fns
  call_items (suc (suc k)) = tt

  call_labels : (k l : ℕ) (c : Cond) → item_at (item.CallFn callee ∷ ret ∷ []) k ≡ item.Jump c l → StandsOnce (item.CallFn callee ∷ ret ∷ []) l
  call_labels zero l c e = cc
  call_labels (suc zero) l c e = cc
  call_labels (suc (suc k)) l c e = cc

  callee_below : (g : ℕ) → Names (callee ∷ []) g → g < fns
  callee_below g name = omega (arith, one_at callee name.0 g name.1 name.2)

  callee_behind : (f : ℕ) → f < callee → (g : ℕ) → Names (callee ∷ []) g → f < g
  callee_behind f h g name = omega (arith, one_at callee name.0 g name.1 name.2)

  call_is_good : IsGoodFn fns (item.CallFn callee ∷ ret ∷ []) (callee ∷ [])
  call_is_good = record { few = omega arith; each = λ k below. call_items k; labels = call_labels; callees = callee_below }

  pub call_is_link : (f : ℕ) (x : CodeFn) → f < callee → x.items ≡ item.CallFn callee ∷ ret ∷ [] → x.calls ≡ callee ∷ [] → IsLink fns f x
  call_is_link f x below e h = record { good = rw (e, h) call_is_good; onward = rw h (callee_behind f below) }

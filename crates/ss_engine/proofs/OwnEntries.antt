-- A client's own entries.
use Rattle.std.proofs.Common.{◌≡◌, ◌<◌, ℕ, true, sym, ◌∙◌, ap, subst}
use Rattle.ss_lemmas.proofs.Numbers.{eqb_self, eqb_is}
use Rattle.ss_model.specs.declared.entry.Asked.{Asked}
use Rattle.ss_model.specs.declared.entry.Asked.TheVariants.{Call as CallAsked, Push as PushAsked, Install as InstallAsked}
use Rattle.ss_model.specs.declared.entry.Entry.{Entry}
use Rattle.ss_model.specs.declared.entry.Entry.TheVariants.{Call, Push, Step as StepEntry, Install}
use Rattle.ss_model.specs.Report.{asked_entry}
use Rattle.ss_report_laws.specs.Replies.{is_of}
use Rattle.ss_commitlog.specs.declared.role.Role.{Role}
use Rattle.ss_commitlog.specs.declared.role.Role.TheVariants.{Client}
use Rattle.ss_commitlog.specs.Meaning.{HasClientBelow}
use Rattle.ss_turns.specs.Executed.{IsOfRole}

-- what a client asks for is its own
pub asked_is_of : (c index : ℕ) (what : Asked) → is_of c (asked_entry c index what) ≡ true
asked_is_of c index (CallAsked q args) = eqb_self c
asked_is_of c index (PushAsked s source seq rows) = eqb_self c
asked_is_of c index (InstallAsked q text) = eqb_self c

-- and of its role
pub own_role : (c : ℕ) (role : Role) (e : Entry) → is_of c e ≡ true → role ≡ Client c → IsOfRole role e
own_role c role (Call client index q args) own is = is ∙ ap Client (sym (eqb_is client c own))
own_role c role (Push client index s source seq rows) own is = is ∙ ap Client (sym (eqb_is client c own))
own_role c role (Install client index q text) own is = is ∙ ap Client (sym (eqb_is client c own))
own_role c role (StepEntry q r) own is = cc

-- and where the client is one of so many, the entry is of one of these
pub own_below : (c n : ℕ) (e : Entry) → is_of c e ≡ true → c < n → HasClientBelow n e
own_below c n (Call client index q args) own low = subst (λ z. z < n) (sym (eqb_is client c own)) low
own_below c n (Push client index s source seq rows) own low = subst (λ z. z < n) (sym (eqb_is client c own)) low
own_below c n (Install client index q text) own low = subst (λ z. z < n) (sym (eqb_is client c own)) low
own_below c n (StepEntry q r) own low = tt

-- The definition, computed at some words: what is a command, and what is none.
use Rattle.std.proofs.Common.{◌≡◌, ◌+◌, List, [], ◌∷◌, ℕ, true, true≢false, codes, Some, None, inl, inr, refl, sym, subst, ◌∙◌, arith}
use Rattle.std.specs.List.{AllByRecursion, IsDistinct}
use Rattle.ss_lemmas.proofs.Bools.{some_same}
use Rattle.ss_model.specs.declared.entry.Mode.TheVariants.{Strong, Weak}
use Rattle.ss_words.specs.declared.names.OptionName.TheVariants.{Partitions, Recovery, Seed, Votes, Clients, Checkpoint, Restarts}
use Rattle.ss_words.specs.declared.names.Command.{Command}
use Rattle.ss_words.specs.declared.names.Command.TheVariants.{Run, Recover, Audit, Voter}
use Rattle.ss_words.specs.declared.command.CommandLine.{CommandLine}
use Rattle.ss_words.specs.Words.{Asked, asked, is_among, belongs, required, AreOptionsOf, IsCommand, AsksFor, GoTogether, command_word}
use Rattle.ss_words.proofs.Asking.{audit_is_no_show}
use Rattle.ss_words.proofs.Reading.{read, read_is}

abbrev run : List (List ℕ) → List (List ℕ)
run words = codes "run" ∷ words

abbrev voter : List (List ℕ) → List (List ℕ)
voter words = codes "voter" ∷ words

abbrev on : ℕ → CommandLine
on partitions = record { command = Run; options = record { partitions = partitions; mode = Strong; every = None; restarts = 0 } }

abbrev show_of : ℕ → ℕ → ℕ → ℕ → CommandLine
show_of partitions seed votes clients = record { command = Voter (record { seed = seed; votes = votes; clients = clients }); options = record { partitions = partitions; mode = Strong; every = None; restarts = 0 } }

-- on one partition in weak mode
abbrev weakly : Command → CommandLine
weakly command = record { command = command; options = record { partitions = 1; mode = Weak; every = None; restarts = 0 } }

-- ---- commands

alone : AsksFor (run []) (on 1)
unfolding IsDistinct
alone = record {
  rest = [];
  begins = refl;
  asks = record { options = []; are = record { are = record { spelled = refl; once = tt; fit = tt }; belong = tt; complete = tt; go_together = inl refl }; partitions = refl; mode = refl; every = refl; restarts = refl; show = tt };
}

eight : AsksFor (run (codes "--partitions" ∷ codes "8" ∷ [])) (on 8)
unfolding IsDistinct
eight = record {
  rest = _;
  begins = refl;
  asks = record {
    options = asked Partitions (codes "8") ∷ [];
    are = record { are = record { spelled = ([], inl (refl, refl), refl); once = (tt, tt); fit = (refl, tt) }; belong = (refl, tt); complete = tt; go_together = inl refl };
    partitions = refl;
    mode = refl;
    every = refl;
    restarts = refl;
    show = tt;
  };
}

seven_digits : AsksFor (run (codes "--partitions=0000007" ∷ [])) (on 7)
unfolding IsDistinct
seven_digits = record {
  rest = _;
  begins = refl;
  asks = record {
    options = asked Partitions (codes "0000007") ∷ [];
    are = record { are = record { spelled = ([], inr refl, refl); once = (tt, tt); fit = (refl, tt) }; belong = (refl, tt); complete = tt; go_together = inl refl };
    partitions = refl;
    mode = refl;
    every = refl;
    restarts = refl;
    show = tt;
  };
}

strong_first : AsksFor (run (codes "--recovery=strong" ∷ codes "--partitions" ∷ codes "3" ∷ [])) (on 3)
unfolding IsDistinct
strong_first = record {
  rest = _;
  begins = refl;
  asks = record {
    options = asked Recovery (codes "strong") ∷ asked Partitions (codes "3") ∷ [];
    are = record {
      are = record { spelled = (codes "--partitions" ∷ codes "3" ∷ [], inr refl, ([], inl (refl, refl), refl)); once = ((refl, tt), (tt, tt)); fit = (refl, (refl, tt)) };
      belong = (refl, (refl, tt));
      complete = tt;
      go_together = inl refl;
    };
    partitions = refl;
    mode = refl;
    every = refl;
    restarts = refl;
    show = tt;
  };
}

recovery : AsksFor (codes "recover" ∷ codes "--partitions=08" ∷ codes "--recovery" ∷ codes "strong" ∷ []) (record { command = Recover; options = record { partitions = 8; mode = Strong; every = None; restarts = 0 } })
unfolding IsDistinct
recovery = record {
  rest = _;
  begins = refl;
  asks = record {
    options = asked Partitions (codes "08") ∷ asked Recovery (codes "strong") ∷ [];
    are = record {
      are = record { spelled = (codes "--recovery" ∷ codes "strong" ∷ [], inr refl, ([], inl (refl, refl), refl)); once = ((refl, tt), (tt, tt)); fit = (refl, (refl, tt)) };
      belong = (refl, (refl, tt));
      complete = tt;
      go_together = inl refl;
    };
    partitions = refl;
    mode = refl;
    every = refl;
    restarts = refl;
    show = tt;
  };
}

an_audit : AsksFor (codes "audit" ∷ []) (record { command = Audit; options = record { partitions = 1; mode = Strong; every = None; restarts = 0 } })
unfolding IsDistinct
an_audit = record {
  rest = [];
  begins = refl;
  asks = record { options = []; are = record { are = record { spelled = refl; once = tt; fit = tt }; belong = tt; complete = tt; go_together = inl refl }; partitions = refl; mode = refl; every = refl; restarts = refl; show = tt };
}

a_show : AsksFor (voter (codes "--seed" ∷ codes "0" ∷ codes "--votes" ∷ codes "200000" ∷ codes "--clients" ∷ codes "8" ∷ [])) (show_of 1 0 200000 8)
unfolding IsDistinct
a_show = record {
  rest = _;
  begins = refl;
  asks = record {
    options = asked Seed (codes "0") ∷ asked Votes (codes "200000") ∷ asked Clients (codes "8") ∷ [];
    are = record {
      are = record {
        spelled = (
          codes "--votes" ∷ codes "200000" ∷ codes "--clients" ∷ codes "8" ∷ [],
          inl (refl, refl),
          (codes "--clients" ∷ codes "8" ∷ [], inl (refl, refl), ([], inl (refl, refl), refl)),
        );
        once = ((refl, (refl, tt)), ((refl, tt), (tt, tt)));
        fit = (refl, (refl, (refl, tt)));
      };
      belong = (refl, (refl, (refl, tt)));
      complete = (refl, (refl, (refl, tt)));
      go_together = inl refl;
    };
    partitions = refl;
    mode = refl;
    every = refl;
    restarts = refl;
    show = record { seed = refl; votes = refl; clients = refl };
  };
}

show_on_two : AsksFor (voter (codes "--clients=1" ∷ codes "--partitions=2" ∷ codes "--votes=1" ∷ codes "--seed=9999999" ∷ [])) (show_of 2 9999999 1 1)
unfolding IsDistinct
show_on_two = record {
  rest = _;
  begins = refl;
  asks = record {
    options = asked Clients (codes "1") ∷ asked Partitions (codes "2") ∷ asked Votes (codes "1") ∷ asked Seed (codes "9999999") ∷ [];
    are = record {
      are = record {
        spelled = (
          codes "--partitions=2" ∷ codes "--votes=1" ∷ codes "--seed=9999999" ∷ [],
          inr refl,
          (codes "--votes=1" ∷ codes "--seed=9999999" ∷ [], inr refl, (codes "--seed=9999999" ∷ [], inr refl, ([], inr refl, refl))),
        );
        once = ((refl, (refl, (refl, tt))), ((refl, (refl, tt)), ((refl, tt), (tt, tt))));
        fit = (refl, (refl, (refl, (refl, tt))));
      };
      belong = (refl, (refl, (refl, (refl, tt))));
      complete = (refl, (refl, (refl, tt)));
      go_together = inl refl;
    };
    partitions = refl;
    mode = refl;
    every = refl;
    restarts = refl;
    show = record { seed = refl; votes = refl; clients = refl };
  };
}

checkpoints : AsksFor (run (codes "--checkpoint=1000000" ∷ [])) (record { command = Run; options = record { partitions = 1; mode = Strong; every = Some 1000000; restarts = 0 } })
unfolding IsDistinct
checkpoints = record {
  rest = _;
  begins = refl;
  asks = record {
    options = asked Checkpoint (codes "1000000") ∷ [];
    are = record { are = record { spelled = ([], inr refl, refl); once = (tt, tt); fit = (refl, tt) }; belong = (refl, tt); complete = tt; go_together = inl refl };
    partitions = refl;
    mode = refl;
    every = refl;
    restarts = refl;
    show = tt;
  };
}

restarts : AsksFor (run (codes "--restarts" ∷ codes "16" ∷ codes "--checkpoint=5" ∷ [])) (record { command = Run; options = record { partitions = 1; mode = Strong; every = Some 5; restarts = 16 } })
unfolding IsDistinct
restarts = record {
  rest = _;
  begins = refl;
  asks = record {
    options = asked Restarts (codes "16") ∷ asked Checkpoint (codes "5") ∷ [];
    are = record {
      are = record { spelled = (codes "--checkpoint=5" ∷ [], inl (refl, refl), ([], inr refl, refl)); once = ((refl, tt), (tt, tt)); fit = (refl, (refl, tt)) };
      belong = (refl, (refl, tt));
      complete = tt;
      go_together = inr refl;
    };
    partitions = refl;
    mode = refl;
    every = refl;
    restarts = refl;
    show = tt;
  };
}

no_restart : AsksFor (run (codes "--restarts=0" ∷ [])) (on 1)
unfolding IsDistinct
no_restart = record {
  rest = _;
  begins = refl;
  asks = record {
    options = asked Restarts (codes "0") ∷ [];
    are = record { are = record { spelled = ([], inr refl, refl); once = (tt, tt); fit = (refl, tt) }; belong = (refl, tt); complete = tt; go_together = inl refl };
    partitions = refl;
    mode = refl;
    every = refl;
    restarts = refl;
    show = tt;
  };
}

weak : AsksFor (run (codes "--recovery" ∷ codes "weak" ∷ [])) (weakly Run)
unfolding IsDistinct
weak = record {
  rest = _;
  begins = refl;
  asks = record {
    options = asked Recovery (codes "weak") ∷ [];
    are = record { are = record { spelled = ([], inl (refl, refl), refl); once = (tt, tt); fit = (refl, tt) }; belong = (refl, tt); complete = tt; go_together = inl refl };
    partitions = refl;
    mode = refl;
    every = refl;
    restarts = refl;
    show = tt;
  };
}

weak_recovery : AsksFor (codes "recover" ∷ codes "--recovery=weak" ∷ []) (weakly Recover)
unfolding IsDistinct
weak_recovery = record {
  rest = _;
  begins = refl;
  asks = record {
    options = asked Recovery (codes "weak") ∷ [];
    are = record { are = record { spelled = ([], inr refl, refl); once = (tt, tt); fit = (refl, tt) }; belong = (refl, tt); complete = tt; go_together = inl refl };
    partitions = refl;
    mode = refl;
    every = refl;
    restarts = refl;
    show = tt;
  };
}

weak_show : AsksFor (voter (codes "--recovery=weak" ∷ codes "--seed=1" ∷ codes "--votes=2" ∷ codes "--clients=3" ∷ [])) (weakly (Voter (record { seed = 1; votes = 2; clients = 3 })))
unfolding IsDistinct
weak_show = record {
  rest = _;
  begins = refl;
  asks = record {
    options = asked Recovery (codes "weak") ∷ asked Seed (codes "1") ∷ asked Votes (codes "2") ∷ asked Clients (codes "3") ∷ [];
    are = record {
      are = record {
        spelled = (
          codes "--seed=1" ∷ codes "--votes=2" ∷ codes "--clients=3" ∷ [],
          inr refl,
          (codes "--votes=2" ∷ codes "--clients=3" ∷ [], inr refl, (codes "--clients=3" ∷ [], inr refl, ([], inr refl, refl))),
        );
        once = ((refl, (refl, (refl, tt))), ((refl, (refl, tt)), ((refl, tt), (tt, tt))));
        fit = (refl, (refl, (refl, (refl, tt))));
      };
      belong = (refl, (refl, (refl, (refl, tt))));
      complete = (refl, (refl, (refl, tt)));
      go_together = inl refl;
    };
    partitions = refl;
    mode = refl;
    every = refl;
    restarts = refl;
    show = record { seed = refl; votes = refl; clients = refl };
  };
}

weak_without_restarts : AsksFor (run (codes "--restarts" ∷ codes "0" ∷ codes "--recovery" ∷ codes "weak" ∷ [])) (weakly Run)
unfolding IsDistinct
weak_without_restarts = record {
  rest = _;
  begins = refl;
  asks = record {
    options = asked Restarts (codes "0") ∷ asked Recovery (codes "weak") ∷ [];
    are = record {
      are = record { spelled = (codes "--recovery" ∷ codes "weak" ∷ [], inl (refl, refl), ([], inl (refl, refl), refl)); once = ((refl, tt), (tt, tt)); fit = (refl, (refl, tt)) };
      belong = (refl, (refl, tt));
      complete = tt;
      go_together = inl refl;
    };
    partitions = refl;
    mode = refl;
    every = refl;
    restarts = refl;
    show = tt;
  };
}

-- ---- none

-- the words are a command of this word, with these options
abbrev IsWith : List ℕ → List (List ℕ) → List Asked → Type 0
IsWith word words options = (command : Command) × (word ≡ command_word command) × AreOptionsOf command words options

module _ (word : List ℕ) (words : List (List ℕ)) where
  options_of : (h : IsCommand (word ∷ words)) → (h.rest ≡ words) × (read None words ≡ Some h.options)
  options_of h =
      let e : word ∷ words ≡ command_word h.command ∷ h.rest = h.begins in
      let same : h.rest ≡ words = cc in
      (same, read_is words h.options (subst (λ w. AreOptionsOf h.command w h.options) same h.are).are.spelled)

  -- words that spell no options
  unspelled : read None words ≡ None → ¬ (IsCommand (word ∷ words))
  unspelled e h = let never : None ≡ Some h.options = sym e ∙ (options_of h).1 in absurd cc

  -- words that spell these options, which no command of this word has
  unlike : (options : List Asked) → read None words ≡ Some options → ¬ (IsWith word words options) → ¬ (IsCommand (word ∷ words))
  unlike options e never h =
      let o = options_of h in
      let same : h.options ≡ options = some_same h.options options (sym o.1 ∙ e) in
      let begins : word ∷ words ≡ command_word h.command ∷ h.rest = h.begins in
      let named : word ≡ command_word h.command = cc in
      never (h.command, named, subst (AreOptionsOf h.command words) same (subst (λ w. AreOptionsOf h.command w h.options) o.0 h.are))

no_words : ¬ (IsCommand [])
no_words h = let e : [] ≡ command_word h.command ∷ h.rest = h.begins in absurd cc

-- no command has this word
no_such : (c : Command) → codes "--partitions" ≡ command_word c → ⊥
no_such Run e = cc
no_such Recover e = cc
no_such Audit e = cc
no_such (Voter show) e = cc

no_command : ¬ (IsCommand (codes "--partitions" ∷ codes "1" ∷ []))
no_command h =
    let e : codes "--partitions" ∷ codes "1" ∷ [] ≡ command_word h.command ∷ h.rest = h.begins in
    no_such h.command cc

nine : ¬ (IsCommand (run (codes "--partitions" ∷ codes "9" ∷ [])))
nine = unlike _ _ (asked Partitions (codes "9") ∷ []) refl (λ w. true≢false (sym w.2.are.fit.0))

zero_partitions : ¬ (IsCommand (run (codes "--partitions=0" ∷ [])))
zero_partitions = unlike _ _ (asked Partitions (codes "0") ∷ []) refl (λ w. true≢false (sym w.2.are.fit.0))

minus : ¬ (IsCommand (run (codes "--partitions" ∷ codes "-1" ∷ [])))
minus = unspelled _ _ refl

minus_joined : ¬ (IsCommand (run (codes "--partitions=-1" ∷ [])))
minus_joined = unlike _ _ (asked Partitions (codes "-1") ∷ []) refl (λ w. true≢false (sym w.2.are.fit.0))

plus : ¬ (IsCommand (run (codes "--partitions" ∷ codes "+1" ∷ [])))
plus = unlike _ _ (asked Partitions (codes "+1") ∷ []) refl (λ w. true≢false (sym w.2.are.fit.0))

no_value : ¬ (IsCommand (run (codes "--partitions" ∷ [])))
no_value = unspelled _ _ refl

empty_value : ¬ (IsCommand (run (codes "--partitions=" ∷ [])))
empty_value = unlike _ _ (asked Partitions [] ∷ []) refl (λ w. true≢false (sym w.2.are.fit.0))

eight_digits : ¬ (IsCommand (run (codes "--partitions" ∷ codes "00000001" ∷ [])))
eight_digits = unlike _ _ (asked Partitions (codes "00000001") ∷ []) refl (λ w. true≢false (sym w.2.are.fit.0))

named_twice : ¬ (IsCommand (run (codes "--partitions" ∷ codes "1" ∷ codes "--partitions=1" ∷ [])))
unfolding IsDistinct
named_twice = unlike _ _ (asked Partitions (codes "1") ∷ asked Partitions (codes "1") ∷ []) refl (λ w. true≢false w.2.are.once.0.0)

dashes : ¬ (IsCommand (run (codes "--" ∷ [])))
dashes = unspelled _ _ refl

another_word : ¬ (IsCommand (run (codes "x" ∷ [])))
another_word = unspelled _ _ refl

another_mode : ¬ (IsCommand (run (codes "--recovery" ∷ codes "none" ∷ [])))
another_mode = unlike _ _ (asked Recovery (codes "none") ∷ []) refl (λ w. true≢false (sym w.2.are.fit.0))

both_modes : ¬ (IsCommand (run (codes "--recovery=weak" ∷ codes "--recovery=strong" ∷ [])))
unfolding IsDistinct
both_modes = unlike _ _ (asked Recovery (codes "weak") ∷ asked Recovery (codes "strong") ∷ []) refl (λ w. true≢false w.2.are.once.0.0)

-- restarts in weak mode, in either order, and of a show
not_together : (n : ℕ) → ¬ (GoTogether (1 + n) Weak)
not_together n (inl none) = omega (arith, none)
not_together n (inr strong) = cc

weak_with_a_restart : ¬ (IsCommand (run (codes "--restarts" ∷ codes "1" ∷ codes "--recovery" ∷ codes "weak" ∷ [])))
weak_with_a_restart = unlike _ _ (asked Restarts (codes "1") ∷ asked Recovery (codes "weak") ∷ []) refl (λ w. not_together 0 w.2.go_together)

weak_before_a_restart : ¬ (IsCommand (run (codes "--recovery=weak" ∷ codes "--restarts=1" ∷ [])))
weak_before_a_restart = unlike _ _ (asked Recovery (codes "weak") ∷ asked Restarts (codes "1") ∷ []) refl (λ w. not_together 0 w.2.go_together)

weak_show_with_restarts : ¬ (IsCommand (voter (codes "--seed=1" ∷ codes "--votes=2" ∷ codes "--clients=3" ∷ codes "--recovery=weak" ∷ codes "--restarts=16" ∷ [])))
weak_show_with_restarts =
    let options = asked Seed (codes "1") ∷ asked Votes (codes "2") ∷ asked Clients (codes "3") ∷ asked Recovery (codes "weak") ∷ asked Restarts (codes "16") ∷ [] in
    unlike _ _ options refl (λ w. not_together 15 w.2.go_together)

-- an option of a show behind another command
seed_of_run : ¬ (IsCommand (run (codes "--seed=1" ∷ [])))
seed_of_run = unlike _ _ (asked Seed (codes "1") ∷ []) refl never
  where
    never : ¬ (IsWith (codes "run") (codes "--seed=1" ∷ []) (asked Seed (codes "1") ∷ []))
    never w = by w.0 w.1 w.2.belong.0
      where
        by : (command : Command) → codes "run" ≡ command_word command → belongs command (asked Seed (codes "1")) ≡ true → ⊥
        by Run e f = cc
        by Recover e f = cc
        by Audit e f = cc
        by (Voter show) e f = cc

zero_apart : ¬ (IsCommand (run (codes "--checkpoint=0" ∷ [])))
zero_apart = unlike _ _ (asked Checkpoint (codes "0") ∷ []) refl (λ w. true≢false (sym w.2.are.fit.0))

past_a_million : ¬ (IsCommand (run (codes "--checkpoint=1000001" ∷ [])))
past_a_million = unlike _ _ (asked Checkpoint (codes "1000001") ∷ []) refl (λ w. true≢false (sym w.2.are.fit.0))

-- a checkpoint behind a recovery
checkpoint_of_recover : ¬ (IsCommand (codes "recover" ∷ codes "--checkpoint=1" ∷ []))
checkpoint_of_recover = unlike _ _ (asked Checkpoint (codes "1") ∷ []) refl never
  where
    never : ¬ (IsWith (codes "recover") (codes "--checkpoint=1" ∷ []) (asked Checkpoint (codes "1") ∷ []))
    never w = by w.0 w.1 w.2.belong.0
      where
        by : (command : Command) → codes "recover" ≡ command_word command → belongs command (asked Checkpoint (codes "1")) ≡ true → ⊥
        by Run e f = cc
        by Recover e f = cc
        by Audit e f = cc
        by (Voter show) e f = cc

past_sixteen : ¬ (IsCommand (run (codes "--restarts" ∷ codes "17" ∷ [])))
past_sixteen = unlike _ _ (asked Restarts (codes "17") ∷ []) refl (λ w. true≢false (sym w.2.are.fit.0))

restarts_twice : ¬ (IsCommand (run (codes "--restarts" ∷ codes "1" ∷ codes "--restarts" ∷ codes "1" ∷ [])))
unfolding IsDistinct
restarts_twice = unlike _ _ (asked Restarts (codes "1") ∷ asked Restarts (codes "1") ∷ []) refl (λ w. true≢false w.2.are.once.0.0)

-- a restart behind a recovery
restarts_of_recover : ¬ (IsCommand (codes "recover" ∷ codes "--restarts" ∷ codes "1" ∷ []))
restarts_of_recover = unlike _ _ (asked Restarts (codes "1") ∷ []) refl never
  where
    never : ¬ (IsWith (codes "recover") (codes "--restarts" ∷ codes "1" ∷ []) (asked Restarts (codes "1") ∷ []))
    never w = by w.0 w.1 w.2.belong.0
      where
        by : (command : Command) → codes "recover" ≡ command_word command → belongs command (asked Restarts (codes "1")) ≡ true → ⊥
        by Run e f = cc
        by Recover e f = cc
        by Audit e f = cc
        by (Voter show) e f = cc

-- an option behind an audit
recovery_of_audit : ¬ (IsCommand (codes "audit" ∷ codes "--recovery=strong" ∷ []))
recovery_of_audit = unlike _ _ (asked Recovery (codes "strong") ∷ []) refl never
  where
    never : ¬ (IsWith (codes "audit") (codes "--recovery=strong" ∷ []) (asked Recovery (codes "strong") ∷ []))
    never w = by w.0 w.1 w.2.belong.0
      where
        by : (command : Command) → codes "audit" ≡ command_word command → belongs command (asked Recovery (codes "strong")) ≡ true → ⊥
        by Run e f = cc
        by Recover e f = cc
        by Audit e f = cc
        by (Voter show) e f = cc

-- a show without its seed
no_seed : ¬ (IsCommand (voter (codes "--votes=1" ∷ codes "--clients=1" ∷ [])))
no_seed = unlike _ _ (asked Votes (codes "1") ∷ asked Clients (codes "1") ∷ []) refl never
  where
    never : ¬ (IsWith (codes "voter") (codes "--votes=1" ∷ codes "--clients=1" ∷ []) (asked Votes (codes "1") ∷ asked Clients (codes "1") ∷ []))
    never w = by w.0 w.1 w.2.complete
      where
        by : (command : Command) → codes "voter" ≡ command_word command → AllByRecursion (λ name. is_among (asked Votes (codes "1") ∷ asked Clients (codes "1") ∷ []) name ≡ true) (required command) → ⊥
        by Run e f = cc
        by Recover e f = cc
        by Audit e f = audit_is_no_show (sym e)
        by (Voter show) e f = true≢false (sym f.0)

votes_past_the_range : ¬ (IsCommand (voter (codes "--votes=200001" ∷ codes "--seed=1" ∷ codes "--clients=1" ∷ [])))
votes_past_the_range = unlike _ _ (asked Votes (codes "200001") ∷ asked Seed (codes "1") ∷ asked Clients (codes "1") ∷ []) refl (λ w. true≢false (sym w.2.are.fit.0))

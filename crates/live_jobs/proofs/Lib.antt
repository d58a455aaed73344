mod LiveLemmas

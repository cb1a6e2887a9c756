mod SignedOnce

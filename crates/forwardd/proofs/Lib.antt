mod Tokens

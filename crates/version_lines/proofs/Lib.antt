mod Forty

mod Enums
